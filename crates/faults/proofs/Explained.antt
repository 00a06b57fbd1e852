-- What a fault means: it explains the verdict, and what it says of the sheet holds. Assumes nothing.
use mathlib.Core.Bool.{Bool, true, false, cond, not, ◌&&◌}
use mathlib.Core.List.{List}
use mathlib.Core.Logic.{⊎_elim}
use mathlib.Core.Option.{Option as Maybe, none, some}
use mathlib.Core.Path.{◌≡◌, refl, sym, ◌∙◌}
use Prim.Native.Nat.{ℕ}
use lib.Dec.{leb, ltb, eqb}
use lib.ListN.{length}
use borrow.Author.Tests.{eqb-true}
use Rattle.weak_orders.proofs.Tests.{by_test}
use Rattle.refusals.specs.declared.Cause.TheVariants.{NotWeakOrder, LevelSetting, SheetMalformed}
use Rattle.std.specs.Prelude.{Option, Some, None, Result, Err}
use Rattle.std.specs.Option.{option_map}
use Rattle.std.specs.Result.{result_err}
use Rattle.refusals.specs.declared.Cause.{Cause}
use Rattle.sheets.specs.declared.judge.Round.{Round}
use Rattle.successors.specs.Rules.{in_form, is_rule}
use Rattle.levels.specs.Level.{setting_of, top_ok, spacing_ok, even_ok, setting_ok}
use Rattle.levels.proofs.Levels.{no_table}
use Rattle.sheets.specs.Sheet.{RawSheet, longest, has_title, parse}
use Rattle.sheets.specs.Judgement.{judged, judged_sheet, judged_text}
use Rattle.faults.specs.Faults.{has_byte, ends_line, malformed, start_fault, setting_fault, sheet_fault, text_fault, fault_of}
use Rattle.faults.specs.Claims.{cause_of, Formless, TooLow, Claims}
use Rattle.faults.specs.declared.Fault.{Fault}
use Rattle.faults.specs.declared.Fault.TheVariants.{Empty, TooLong, CarriageReturn, Tab, NotAscii, NoLineFeed, FirstLine}
use Rattle.faults.specs.declared.Fault.TheVariants.{SecondLine, Length, Rule, Count, RankForm, HeightForm, Top, Spacing, LowestLevel}

-- what a fault says of the sheet that the text reads as
abbrev Known : List ℕ → Fault → Type 0
Known s Empty = Unit {0}
Known s TooLong = Unit {0}
Known s CarriageReturn = Unit {0}
Known s Tab = Unit {0}
Known s NotAscii = Unit {0}
Known s NoLineFeed = Unit {0}
Known s FirstLine = Unit {0}
Known s SecondLine = Unit {0}
Known s Length = Unit {0}
Known s Rule = Unit {0}
Known s Count = Unit {0}
Known s RankForm = (x : RawSheet) × (parse s ≡ some x) × Formless x
Known s HeightForm = (x : RawSheet) × (parse s ≡ some x) × Formless x
Known s Top = Unit {0}
Known s Spacing = Unit {0}
Known s LowestLevel = (x : RawSheet) × (parse s ≡ some x) × TooLow x

abbrev KnownOf : List ℕ → Option Fault → Type 0
KnownOf s None = Unit {0}
KnownOf s (Some f) = Known s f

-- the fault f explains what became of s
abbrev Explains : List ℕ → Result Round Cause → Option Fault → Type 0
Explains s r f = (result_err r ≡ option_map cause_of f) × KnownOf s f

-- ---- a text that reads as no sheet

malformed_explains : (s : List ℕ) → Explains s (Err SheetMalformed) (Some (malformed s))
unfolding malformed
malformed_explains s = go (eqb (length s) 0) (ltb longest (length s)) (has_byte 13 13 s) (has_byte 9 9 s) (has_byte 128 255 s) (ends_line s) (has_title s)
  where
    go : (none long cr tab high line title : Bool) → Explains s (Err SheetMalformed) (Some (
        cond none Empty (cond long TooLong (cond cr CarriageReturn (cond tab Tab (cond high NotAscii (
        cond (not line) NoLineFeed (cond (not title) FirstLine SecondLine))))))))
    go true long cr tab high line title = (refl, tt)
    go false true cr tab high line title = (refl, tt)
    go false false true tab high line title = (refl, tt)
    go false false false true high line title = (refl, tt)
    go false false false false true line title = (refl, tt)
    go false false false false false false title = (refl, tt)
    go false false false false false true false = (refl, tt)
    go false false false false false true true = (refl, tt)

-- ---- a sheet

module _ (s : List ℕ) (x : RawSheet) (q : parse s ≡ some x) where
  start_explains : (eqb (length x.start) x.n && in_form x.rule x.start) ≡ false →
      Explains s (Err NotWeakOrder) (Some (start_fault (length x.start) x.n x.rule))
  start_explains e = by_test (eqb (length x.start) x.n)
      (λ c.
      let formless : Formless x = record { count = eqb-true (length x.start) x.n c; form = rw c at e } in
      by_test (eqb x.rule 1) (λ r. rw (c, r) (refl, (x, q, formless))) (λ r. rw (c, r) (refl, (x, q, formless))))
      (λ c. rw c (refl, tt))

  setting_explains : setting_ok x.n (setting_of x.top x.spacing) ≡ false →
      Explains s (Err LevelSetting) (Some (setting_fault x.top x.spacing))
  unfolding even_ok
  setting_explains e = by_test (top_ok x.top)
      (λ t. by_test (spacing_ok x.spacing)
      (λ u.
      let low : TooLow x = record { top = t; spacing = u; level = rw (t, u) at (sym (no_table x.n x.top x.spacing) ∙ e) } in
      rw (t, u) (refl, (x, q, low)))
      (λ u. rw (t, u) (refl, tt)))
      (λ t. rw t (refl, tt))

  sheet_explains : Explains s (judged x) (sheet_fault (judged x) x)
  unfolding judged sheet_fault
  sheet_explains = by_test (leb 1 x.n && leb x.n 8)
      (λ e₆. by_test (is_rule x.rule)
      (λ e₇. by_test (eqb (length x.start) x.n && in_form x.rule x.start)
      (λ e₈. by_test (setting_ok x.n (setting_of x.top x.spacing))
      (λ e₉. rw (e₆, e₇, e₈, e₉) (refl, tt))
      (λ e₉. rw (e₆, e₇, e₈, e₉) (setting_explains e₉)))
      (λ e₈. rw (e₆, e₇, e₈) (start_explains e₈)))
      (λ e₇. rw (e₆, e₇) (refl, tt)))
      (λ e₆. rw e₆ (refl, tt))

-- ---- a text

explains : (s : List ℕ) → Explains s (judged_text s) (fault_of s)
unfolding judged_text judged_sheet fault_of text_fault
explains s = go (parse s) refl
  where
    go : (o : Maybe RawSheet) → parse s ≡ o → Explains s (judged_sheet o) (text_fault s o)
    go none q = malformed_explains s
    go (some x) q = sheet_explains s x q

known_of : (s : List ℕ) (f : Fault) → fault_of s ≡ Some f → Known s f
known_of s f e = rw e at (explains s).1

pub claims : Claims
claims = record {
  cause = λ s. (explains s).0;
  form = λ s. ⊎_elim (known_of s RankForm) (known_of s HeightForm);
  lowest = λ s. known_of s LowestLevel;
}
