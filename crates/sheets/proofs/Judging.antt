-- The tests on a sheet in their order, and the start window before and after its items are narrowed. Assumes nothing.
use mathlib.Core.Bool.{true, false, ◌&&◌}
use mathlib.Core.List.Memᴰ
use mathlib.Core.List.{List, map}
use mathlib.Core.Option.{Option, none, some}
use mathlib.Core.Path.{◌≡◌, refl, sym, ◌∙◌}
use Prim.Native.Nat.{ℕ, ◌≤◌}
use native.Mathlib.Decide.{ℕ_discrete}
use native.Mathlib.Omega.{arith}
use lib.Dec.{leb, eqb}
use lib.ListN.{length, take, length-map, length-take}
use lib.Seq.{length-take-le}
use borrow.Author.Tests.{eq-eqb, ne_eqb}
use Rattle.weak_orders.specs.Window.{is_length, padded}
use Rattle.weak_orders.proofs.Tests.{◌∈◌, same_test, says_and, says_as, says_eq, says_itself, says_le}
use Rattle.weak_orders.proofs.Lists.{map_cong, map_same}
use Rattle.weak_orders.proofs.Padded.{take-padded}
use Rattle.weak_orders.proofs.FormTests.{says_length}
use Rattle.successors.specs.Rules.{in_form, is_rule}
use Rattle.successors.proofs.RuleNumbers.{form_bound}
use Rattle.refusals.specs.declared.Cause.TheVariants.{WindowLength, RuleNumber, NotWeakOrder, LevelSetting, SheetMalformed}
use Rattle.levels.specs.declared.Setting.{Setting}
use Rattle.levels.specs.Level.{setting_of, setting_ok}
use Rattle.sheets.specs.Sheet.{RawSheet, parse}
use Rattle.sheets.specs.Held.{sheet_held, parsed_of}
use Rattle.sheets.specs.declared.sheet.Sheet.{Sheet}
use Rattle.std.specs.Prelude.{Option as Optional, Some, None, Result, Ok, Err}
use Rattle.std.specs.Option.{ok_or}
use Rattle.std.proofs.lemmas.Option.{none-some, same_Some}
use Rattle.sheets.proofs.SheetTexts.{parse_sound}
use Rattle.sheets.specs.Judgement.{round_of, judged, judged_sheet, judged_text, raw_of, symbol_of}

-- the cause of a refusal for want of a value
pub same_cause : {T E : Type 0} {o : Optional T} {a b : E} → o ≡ None → Err a ≡ ok_or o b → a ≡ b
same_cause {T} {E} {o} {a} {b} n e = let q : ◌≡◌ {A = Result T E} (Err a) (Err b) = rw n at e in cc

-- ---- the tests

pub in_bounds : (low high v : ℕ) → (leb low v && leb v high) ≡ true → (low ≤ v) × (v ≤ high)
in_bounds low high v e = (says_and (says_le low v) (says_le v high)).to e

module _ (x : RawSheet) where
  pub bad_length : (leb 1 x.n && leb x.n 8) ≡ false → Err WindowLength ≡ judged x
  unfolding judged
  bad_length e = rw e

  module _ (e₆ : (leb 1 x.n && leb x.n 8) ≡ true) where
    pub bad_rule : is_rule x.rule ≡ false → Err RuleNumber ≡ judged x
    unfolding judged
    bad_rule e = rw (e₆, e)

    module _ (e₇ : is_rule x.rule ≡ true) where
      pub bad_window : (eqb (length x.start) x.n && in_form x.rule x.start) ≡ false → Err NotWeakOrder ≡ judged x
      unfolding judged
      bad_window e = rw (e₆, e₇, e)

      module _ (e₈ : (eqb (length x.start) x.n && in_form x.rule x.start) ≡ true) where
        pub bad_setting : setting_ok x.n (setting_of x.top x.spacing) ≡ false → Err LevelSetting ≡ judged x
        unfolding judged
        bad_setting e = rw (e₆, e₇, e₈, e)

        pub good_sheet : setting_ok x.n (setting_of x.top x.spacing) ≡ true → (setting : Setting) (w : List ℕ) →
            setting ≡ setting_of x.top x.spacing → w ≡ padded x.start →
            Ok (record { n = x.n; rule = x.rule; setting = setting; window = w }) ≡ judged x
        unfolding judged round_of
        good_sheet e setting w p q = rw (e₆, e₇, e₈, e, p, q)

-- ---- the start window

-- narrowing changes no window of at most 16 symbols that was in a form, and makes none
kept : (w : List ℕ) → ((v : ℕ) → v ∈ w → v ≤ 16) → map symbol_of w ≡ w
kept w h = map_cong symbol_of (λ v. v) w (λ v m. omega (arith, h v m)) ∙ map_same w

narrowed : (rule : ℕ) (w : List ℕ) → length w ≤ 16 → in_form rule w ≡ true → map symbol_of w ≡ w
narrowed rule w h e = kept w (λ v m. omega (arith, form_bound rule w e v m))

narrowed_form : (rule : ℕ) (w : List ℕ) → length w ≤ 16 → in_form rule (map symbol_of w) ≡ in_form rule w
narrowed_form rule w h = same_test
    (says_as (says_itself (in_form rule (map symbol_of w)))
    (λ e. rw (kept w (λ v m. omega (arith, form_bound rule (map symbol_of w) e (symbol_of v) (Memᴰ.map symbol_of m), length-map w symbol_of))) at e)
    (λ e. rw (narrowed rule w h e) e))
    (says_itself (in_form rule w))

-- test 8 on the first n items as bytes, against that on the items
module _ (rule n count : ℕ) (items w : List ℕ) (long : length items ≡ 16) (pos : 1 ≤ n) (few : n ≤ 8)
    (e : w ≡ padded (map symbol_of (take n items))) where
  size : length (map symbol_of (take n items)) ≡ n
  size = length-map (take n items) symbol_of ∙ length-take-le n items (omega arith)

  pub test_8 : (eqb count n && (is_length n && in_form rule (take n w))) ≡ (eqb (length (take count items)) n && in_form rule (take count items))
  test_8 = elim (ℕ_discrete count n) [
    | yes q ↦
        let l = length-take-le n items (omega arith) in
        let t : is_length n ≡ true = (says_length n).of (omega arith) in
        rw (q, e, eq-eqb n n refl, t, take-padded (map symbol_of (take n items)) n size, l, eq-eqb n n refl) (narrowed_form rule (take n items) (omega arith))
    | no q ↦ rw (ne_eqb count n q, ne_eqb (length (take count items)) n (λ r. q (omega (arith, length-take count items))))
  ]

  -- where it passes, the bytes are the items
  pub start_window : (eqb (length (take count items)) n && in_form rule (take count items)) ≡ true → w ≡ padded (take count items)
  start_window t =
      let (q, f) = (says_and (says_eq (length (take count items)) n) (says_itself (in_form rule (take count items)))).to t in
      let c : count ≡ n = omega (arith, length-take count items) in
      let g : in_form rule (take n items) ≡ true = rw (← c) f in
      e ∙ rw (narrowed rule (take n items) (omega (arith, length-take n items)) g, c)

-- ---- from a text

-- a struct holds the whole sheet
raw_held : (x : RawSheet) → length x.start ≤ 16 → raw_of (sheet_held x) ≡ x
unfolding raw_of
raw_held x h = rw (take-padded x.start (length x.start) refl)

module _ (s : List ℕ) where
  pub malformed : (o : Option RawSheet) → parse s ≡ o → None ≡ parsed_of o → Err SheetMalformed ≡ judged_text s
  unfolding judged_text judged_sheet
  malformed none q e = rw q
  malformed (some x) q e = absurd (none-some _ e)

  pub well_formed : (o : Option RawSheet) → parse s ≡ o → {h : Sheet} → Some h ≡ parsed_of o → judged (raw_of h) ≡ judged_text s
  unfolding judged_text judged_sheet
  well_formed none q e = absurd (none-some _ (sym e))
  well_formed (some x) q {h} e = rw (q, same_Some _ _ e, raw_held x (parse_sound s x q).within.few_start)
