-- The pages of an accepted sheet, joined, are the lines of its round. Assumes nothing.
use mathlib.Core.Bool.{true, false, ◌&&◌}
use mathlib.Core.List.{List, [], ◌∷◌, ◌++◌, append_assoc, append-nil}
use mathlib.Core.Option.{Option, none, some}
use mathlib.Core.Path.{◌≡◌, refl, sym, ap, ◌∙◌}
use Prim.Native.Nat.{ℕ, zero, suc, ◌+◌, ◌-◌, ◌≤◌, ◌<◌}
use native.Mathlib.Decide.{dec_lt}
use native.Mathlib.Numerals.{add-one}
use native.Mathlib.Omega.{arith}
use lib.Dec.{leb, ltb, eqb}
use lib.ListN.{length, take}
use borrow.Author.Tests.{le-leb, ltb-true}
use Rattle.weak_orders.specs.Window.{iter, is_length}
use Rattle.weak_orders.proofs.FormTests.{says_length}
use Rattle.weak_orders.proofs.Padded.{take-padded, length-padded}
use Rattle.weak_orders.proofs.Tests.{◌∈◌, here, there, by_test, says_and, says_eq, says_itself}
use Rattle.ranking.specs.Counts.{a}
use Rattle.successors.specs.NextSymbol.{steppable}
use Rattle.successors.specs.Rules.{rule_of, in_form, WeakOrder, is_rule, step}
use Rattle.successors.proofs.Steppable.{says_steppable}
use Rattle.universal_cycle.specs.Round.{Tour}
use Rattle.universal_cycle.proofs.TwoStarts.{between}
use Rattle.universal_cycle.proofs.Rounds.{universal_cycle}
use Rattle.refusals.specs.declared.Cause.{Cause}
use Rattle.refusals.specs.declared.Cause.TheVariants.{WindowLength, RuleNumber, NotWeakOrder, LevelSetting, SheetMalformed}
use Rattle.levels.specs.Level.{setting_of, setting_ok}
use Rattle.levels.proofs.WindowLevels.{levels_ok}
use Rattle.sheets.specs.declared.judge.Round.{Round}
use Rattle.std.specs.Prelude.{Result, Ok, Err}
use Rattle.printing.specs.declared.Printing.{Printing}
use Rattle.sheets.specs.Sheet.{RawSheet, parse}
use Rattle.sheets.specs.Judgement.{round_of, judged, judged_sheet, judged_text}
use Rattle.printing.specs.Printing.{round_line, round_lines, opening_text, steps_of, lines_of, printed_text, started, onward, last_line}
use Rattle.printing.specs.Printing.{Printed, below, page_of, page_in}
use Rattle.printing.specs.Claims.{pages, Claims}
use Rattle.sheets.proofs.Judging.{in_bounds}
use Rattle.sheets.proofs.SheetTexts.{reads_as}
use Rattle.printing.proofs.Filling.{Steps, onward-stepped}

-- ---- a state on the way through a round

-- k of `last` steps of the round r are done
pub record At (r : Round) (last k : ℕ) (p : Printing) : Type 0 where
  pub rule : p.round.rule ≡ r.rule
  pub setting : p.round.setting ≡ r.setting
  pub window : take p.round.n p.round.window ≡ iter (step (rule_of r.rule)) k (take r.n r.window)
  pub done : p.done ≡ k
  pub end : p.last ≡ last
  pub steps : Steps p
  pub long : length p.round.window ≡ 16

module _ {r : Round} {last k : ℕ} {p : Printing} (at : At r last k p) where
  at_onward : At r last (suc k) (onward p)
  unfolding onward iter
  at_onward = record {
    rule = at.rule;
    setting = at.setting;
    window = (onward-stepped p at.steps at.long).window ∙ rw (at.rule, at.window);
    done = rw add-one (ap suc at.done);
    end = at.end;
    steps = (onward-stepped p at.steps at.long).ready;
    long = (onward-stepped p at.steps at.long).long;
  }

  at_line : last_line p ≡ round_line r k
  unfolding last_line round_line
  at_line = rw (at.done, at.rule, at.setting, at.window)

-- a page takes the state from line k to a later one, and holds the lines between
record Reached (r : Round) (last k left room : ℕ) (t : Printed) : Type 0 where
  to : ℕ
  at : At r last to t.0
  text : round_lines r k ++ t.1 ≡ round_lines r to
  forth : k ≤ to
  most : to ≤ k + left
  moves : 0 < left → 128 ≤ room → k < to

stays : {r : Round} {last k : ℕ} {p : Printing} (left room : ℕ) → (0 < left → 128 ≤ room → ⊥) → At r last k p →
    Reached r last k left room (p, [])
stays {r} {k = k} left room h at =
    record { to = k; at = at; text = append-nil (round_lines r k); forth = omega arith; most = omega arith; moves = λ l m. absurd (h l m) }

page_reaches : {r : Round} {last k : ℕ} {p : Printing} (left room : ℕ) → At r last k p → Reached r last k left room (page_of left room p)
unfolding page_of below round_lines
page_reaches zero room at = stays zero room (λ l m. omega arith) at
page_reaches {r} {last} {k} {p} (suc left) room at = by_test (ltb room 128)
    (λ e. rw e (stays (suc left) room (λ l m. omega (arith, ltb-true room 128 e)) at))
    (λ e.
    let q = onward p in
    let line = at_line (at_onward at) in
    let t = page_of left (room - length (last_line q)) q in
    let next = page_reaches {k = suc k} left (room - length (last_line q)) (at_onward at) in
    rw e (record {
      to = next.to;
      at = next.at;
      text = sym (append_assoc (round_lines r k) (last_line q) t.1) ∙ ap (λ l. (round_lines r k ++ l) ++ t.1) line ∙ next.text;
      forth = omega (arith, next.forth);
      most = omega (arith, next.most);
      moves = λ l m. omega (arith, next.forth);
    }))

-- page after page, until the last line
record Joined (r : Round) (last k : ℕ) (rooms : List ℕ) (t : Printed) : Type 0 where
  to : ℕ
  at : At r last to t.0
  text : round_lines r k ++ t.1 ≡ round_lines r to
  most : to ≤ last
  enough : ((room : ℕ) → room ∈ rooms → 128 ≤ room) → last ≤ k + length rooms → to ≡ last

pages_join : {r : Round} {last k : ℕ} {p : Printing} (rooms : List ℕ) → k ≤ last → At r last k p → Joined r last k rooms (pages rooms p)
unfolding pages below page_in
pages_join {r} {last} {k} [] h at =
    record { to = k; at = at; text = append-nil (round_lines r k); most = h; enough = λ l m. omega arith }
pages_join {r} {last} {k} {p} (room ∷ rooms) h at =
    let left : p.last - p.done ≡ last - k = omega (arith, at.done, at.end) in
    let (q, t) = page_of (p.last - p.done) room p in
    let one = page_reaches (p.last - p.done) room at in
    let more = pages_join {k = one.to} rooms (omega (arith, one.most)) one.at in
    rw ((says_steppable p.round.rule p.round.n p.round.window).of at.steps) (record {
      to = more.to;
      at = more.at;
      text = sym (append_assoc (round_lines r k) t (pages rooms q).1) ∙ ap (λ l. l ++ (pages rooms q).1) one.text ∙ more.text;
      most = more.most;
      enough = λ l m. more.enough (λ v i. l v (there i)) (elim (dec_lt k last) [
        | yes lt ↦ omega (arith, one.moves (omega arith) (l room here))
        | no ge ↦ omega (arith, one.forth)
      ]);
    })

-- ---- what becomes of a text

data Outcome (j : Result Round Cause) : Type 0 where
  turned_down : (c : Cause) → j ≡ Err c → Outcome j
  taken : (x : RawSheet) → j ≡ Ok (round_of x) → (1 ≤ x.n) × (x.n ≤ 8) → is_rule x.rule ≡ true →
      (length x.start ≡ x.n) × (in_form x.rule x.start ≡ true) → setting_ok x.n (setting_of x.top x.spacing) ≡ true → Outcome j

sheet_outcome : (x : RawSheet) → Outcome (judged x)
unfolding judged
sheet_outcome x = by_test (leb 1 x.n && leb x.n 8)
    (λ e₆. by_test (is_rule x.rule)
    (λ e₇. by_test (eqb (length x.start) x.n && in_form x.rule x.start)
    (λ e₈. by_test (setting_ok x.n (setting_of x.top x.spacing))
    (λ e₉. taken x (rw (e₆, e₇, e₈, e₉)) (in_bounds 1 8 x.n e₆) e₇ ((says_and (says_eq (length x.start) x.n) (says_itself (in_form x.rule x.start))).to e₈) e₉)
    (λ e₉. turned_down LevelSetting (rw (e₆, e₇, e₈, e₉))))
    (λ e₈. turned_down NotWeakOrder (rw (e₆, e₇, e₈))))
    (λ e₇. turned_down RuleNumber (rw (e₆, e₇))))
    (λ e₆. turned_down WindowLength (rw e₆))

outcome : (s : List ℕ) → Outcome (judged_text s)
unfolding judged_text judged_sheet
outcome s = go (parse s)
  where
    go : (o : Option RawSheet) → Outcome (judged_sheet o)
    go none = turned_down SheetMalformed refl
    go (some x) = sheet_outcome x

-- ---- what is printed for it

-- a refused sheet has no lines
idle : (p : Printing) → steppable p.round.rule p.round.n p.round.window ≡ false → (rooms : List ℕ) → pages rooms p ≡ (p, [])
unfolding pages page_in below
idle p e [] = refl
idle p e (room ∷ rooms) = rw (e, idle p e rooms)

no_lines : (c : Cause) (rooms : List ℕ) → pages rooms (started (Err c)) ≡ (started (Err c), [])
unfolding steppable started is_rule
no_lines c rooms = idle (started (Err c)) refl rooms

nothing : (c : Cause) → (started (Err c)).done ≡ (started (Err c)).last
unfolding started
nothing c = refl

-- an accepted one starts its round
at_start : (x : RawSheet) → (1 ≤ x.n) × (x.n ≤ 8) → is_rule x.rule ≡ true →
    (length x.start ≡ x.n) × (in_form x.rule x.start ≡ true) →
    At (round_of x) (a x.n) 0 (started (Ok (round_of x)))
unfolding started round_of iter
at_start x (pos, few) known (size, form) =
    let kept = take-padded x.start x.n size in
    record {
      rule = refl;
      setting = refl;
      window = refl;
      done = refl;
      end = rw (le-leb x.n 16 (omega arith));
      steps = (known, ((says_length x.n).of (omega arith), rw kept form));
      long = length-padded x.start (omega arith);
    }

all_printed : (j : Result Round Cause) → Outcome j → (rooms : List ℕ) → (pages rooms (started j)).0.done ≡ (pages rooms (started j)).0.last →
    (pages rooms (started j)).1 ≡ lines_of j
unfolding round_lines lines_of round_of
all_printed j (turned_down c e) rooms d = rw (e, no_lines c rooms)
all_printed j (taken x e n r s l) rooms d =
    let all = pages_join rooms (omega arith) (at_start x n r s) in
    let last : all.to ≡ a x.n = sym all.at.done ∙ (rw e at d) ∙ all.at.end in
    rw e (all.text ∙ ap (round_lines (round_of x)) last)

all_done : (j : Result Round Cause) → Outcome j → (rooms : List ℕ) → ((room : ℕ) → room ∈ rooms → 128 ≤ room) →
    steps_of j ≤ length rooms → (pages rooms (started j)).0.done ≡ (pages rooms (started j)).0.last
unfolding steps_of round_of
all_done j (turned_down c e) rooms h m = rw (e, no_lines c rooms) (nothing c)
all_done j (taken x e n r s l) rooms h m =
    let all = pages_join rooms (omega arith) (at_start x n r s) in
    let many : a x.n ≤ length rooms = rw e at m in
    rw e (all.at.done ∙ all.enough h (omega arith) ∙ sym all.at.end)

-- an accepted one tours the weak orders of at most sixteen symbols, under a setting that passes test 9
in_round : (j : Result Round Cause) → Outcome j → (r : Round) → j ≡ Ok r →
    Tour (WeakOrder r.n r.rule) (step (rule_of r.rule)) (a r.n) (take r.n r.window)
    × ((is_length r.n ≡ true) × (setting_ok r.n r.setting ≡ true))
unfolding round_of
in_round j (turned_down c e) r v = absurd (let z : ◌≡◌ {A = Result Round Cause} (Err c) (Ok r) = sym e ∙ v in cc)
in_round j (taken x e (pos, few) known (size, form) l) r v =
    let q : ◌≡◌ {A = Result Round Cause} (Ok r) (Ok (round_of x)) = sym v ∙ e in
    let p : r ≡ round_of x = cc in
    let kept = take-padded x.start x.n size in
    rw (p, kept) (universal_cycle x.rule known x.n pos x.start (size, form), ((says_length x.n).of (pos, omega arith), l))

pub claims : Claims
unfolding printed_text iter
claims = record {
  reads = reads_as;
  prints = λ s rooms d. ap (λ t. opening_text (judged_text s) ++ t) (all_printed (judged_text s) (outcome s) rooms d);
  ends = λ s rooms h m. all_done (judged_text s) (outcome s) rooms h m;
  each = λ s r v. (in_round (judged_text s) (outcome s) r v).0;
  levels = λ s r v k. let (tour, (long, ok)) = in_round (judged_text s) (outcome s) r v in levels_ok _ _ _ _ long ok (tour.kept k);
  starts = λ s t r q v w n e. between (in_round (judged_text s) (outcome s) r v).0 _ (rw (n, e) ((in_round (judged_text t) (outcome t) q w).0.kept 0));
}
