-- `judge`: each test is that of the definition, on the values as they were read. Assumes nothing.
use mathlib.Core.Bool.{Bool, true, false, ◌&&◌}
use mathlib.Core.Path.{◌≡◌, sym, ap, ◌∙◌}
use native.Mathlib.Omega.{arith}
use Prim.Native.Nat.{◌≤◌}
use lib.Dec.{leb, eqb}
use lib.ListN.{length, take}
use mir.Facts.{to_z-of_z}
use mir.Syntax.{w32}
use mir.Val.{SFits}
use borrow.Author.Tests.{le-leb, not-true, not-false}
use Rattle.std.proofs.lemmas.Grind.{common_steps}
use Rattle.std.proofs.lemmas.Result.{err_from_is_err_and}
use Rattle.successors.specs.Rules.{in_form, is_rule}
use Rattle.sheets.specs.Judgement.{setting_test, raw_of, round_of}
use Rattle.sheets.proofs.Settings.{test_failed, test_passed}
use Rattle.sheets.proofs.Judging.{same_cause, bad_length, bad_rule, bad_window, bad_setting, good_sheet, test_8, start_window}
use borrow.Author.Rules.{rules}
use Rattle.sheets.proofs.judge.judge.Goals.{After-in_form-formed, Then-not-contains, Then-not-contains-2, Else-not-contains, Else-not-contains-2, Else-not-sheet-n, Start}
use Rattle.sheets.proofs.judge.judge.Goals as goal

-- what is known of any sheet
sixteen : (c : Start) → length c.args.sheet.start.values ≡ 16
sixteen c = search rules

top-fits : (c : Start) → SFits w32 c.args.sheet.top
top-fits c = search rules

-- test 6, and what it says where it passed
failed₆ : (c : Then-not-contains) → (leb 1 c.args.sheet.n && leb c.args.sheet.n 8) ≡ false
failed₆ c = grind (arith, common_steps)

bounds₆ : (c : Else-not-contains) → (1 ≤ c.args.sheet.n) × (c.args.sheet.n ≤ 8)
bounds₆ c = search rules

passed₆ : (c : Else-not-contains) → (leb 1 c.args.sheet.n && leb c.args.sheet.n 8) ≡ true
passed₆ c = let (l, h) = bounds₆ c in rw (le-leb 1 c.args.sheet.n l, le-leb c.args.sheet.n 8 h)

-- test 7
failed₇ : (c : Then-not-contains-2) → is_rule c.args.sheet.rule ≡ false
unfolding is_rule
failed₇ c = grind (arith, common_steps)

bounds₇ : (c : Else-not-contains-2) → (1 ≤ c.args.sheet.rule) × (c.args.sheet.rule ≤ 3)
bounds₇ c = search rules

passed₇ : (c : Else-not-contains-2) → is_rule c.args.sheet.rule ≡ true
unfolding is_rule
passed₇ c = let (l, h) = bounds₇ c in rw (le-leb 1 c.args.sheet.rule l, le-leb c.args.sheet.rule 3 h)

-- test 8, as the code does it
abbrev tested : After-in_form-formed → Bool
tested c = eqb c.args.sheet.start.count c.args.sheet.n && c.in_form-formed.result

test : (c : After-in_form-formed) → (1 ≤ c.args.sheet.n) × (c.args.sheet.n ≤ 8) → length c.args.sheet.start.values ≡ 16 →
    let s = c.args.sheet in
    tested c ≡ (eqb (length (take s.start.count s.start.values)) s.n && in_form s.rule (take s.start.count s.start.values))
test c (pos, few) long =
    let s = c.args.sheet in
    ap (λ b. eqb s.start.count s.n && b) c.in_form-formed.ensures
    ∙ test_8 s.rule s.n s.start.count s.start.values c.symbols-window.result long pos few c.symbols-window.ensures

passed₈ : (c : Else-not-sheet-n) → let s = c.args.sheet in
    let items = take s.start.count s.start.values in
    (eqb s.start.count s.n && c.in_form-formed.result) ≡ (eqb (length items) s.n && in_form s.rule items) → (eqb (length items) s.n && in_form s.rule items) ≡ true
passed₈ c t = let s = c.args.sheet in sym t ∙ not-false (eqb s.start.count s.n && c.in_form-formed.result) c.if-not-sheet-n.false-raw

pub returns-then-not-contains : goal.returns-then-not-contains
unfolding raw_of
returns-then-not-contains c = bad_length (raw_of c.args.sheet) (failed₆ c)

pub returns-then-not-contains-2 : goal.returns-then-not-contains-2
unfolding raw_of
returns-then-not-contains-2 c = bad_rule (raw_of c.args.sheet) (passed₆ (goal.at.returns-then-not-contains-2 c).Else-not-contains) (failed₇ c)

pub returns-then-not-sheet-n : goal.returns-then-not-sheet-n
unfolding raw_of
returns-then-not-sheet-n c =
    let here = goal.at.returns-then-not-sheet-n c in
    let k = here.After-in_form-formed in
    let no = sym (test k (bounds₆ here.Else-not-contains) (sixteen here.Start)) ∙ not-true (tested k) c.if-not-sheet-n.true-raw in
    bad_window (raw_of c.args.sheet) (passed₆ here.Else-not-contains) (passed₇ here.Else-not-contains-2) no

pub returns-in_err-setting : goal.returns-in_err-setting
unfolding raw_of
returns-in_err-setting c =
    let here = goal.at.returns-in_err-setting c in
    let s = c.args.sheet in
    let p = err_from_is_err_and c.from_residual.result c.from_residual.ensures.1 in
    let told = sym c.in_err-setting.ensures.ok_part ∙ c.setting_test.ensures ∙ ap (λ z. setting_test s.n z s.spacing) (to_z-of_z (top-fits here.Start)) in
    rw (p.1, p.2, same_cause c.in_err-setting.ensures.ok_part c.in_err-setting.ensures.value)
    (bad_setting (raw_of s) (passed₆ here.Else-not-contains) (passed₇ here.Else-not-contains-2) (passed₈ here.Else-not-sheet-n (test here.After-in_form-formed (bounds₆ here.Else-not-contains) (sixteen here.Start))) (test_failed s.n s.top s.spacing told))

pub returns : goal.returns
unfolding raw_of round_of
returns c =
    let here = goal.at.returns c in
    let s = c.args.sheet in
    let w = c.symbols-window in
    let (pos, few) = bounds₆ here.Else-not-contains in
    let told = sym c.in_ok-setting.ensures.ok_part ∙ c.setting_test.ensures ∙ ap (λ z. setting_test s.n z s.spacing) (to_z-of_z (top-fits here.Start)) in
    let (ok, setting) = test_passed s.n s.top s.spacing c.in_ok-setting.setting told in
    let e₈ = passed₈ here.Else-not-sheet-n (test here.After-in_form-formed (pos, few) (sixteen here.Start)) in
    let window = start_window s.rule s.n s.start.count s.start.values w.result (sixteen here.Start) pos few w.ensures e₈ in
    good_sheet (raw_of s) (passed₆ here.Else-not-contains) (passed₇ here.Else-not-contains-2) e₈ ok c.in_ok-setting.setting w.result setting window
