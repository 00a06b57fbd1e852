-- A text that was read, or not, and its fault. Assumes nothing.
use mathlib.Core.List.{List}
use mathlib.Core.Option.{Option as Maybe, none, some}
use mathlib.Core.Path.{◌≡◌, refl, sym, ap, ◌∙◌}
use Prim.Native.Nat.{ℕ}
use Rattle.std.specs.Prelude.{Some, None, Result, Ok, Err}
use Rattle.std.proofs.lemmas.Option.{none-some, same_Some}
use Rattle.refusals.specs.Numbers.{cause_number}
use Rattle.refusals.specs.declared.Cause.{Cause}
use Rattle.sheets.specs.Sheet.{RawSheet, parse}
use Rattle.sheets.specs.Held.{sheet_held, parsed_of}
use Rattle.sheets.specs.Judgement.{judged, judged_sheet, judged_text, raw_of}
use Rattle.sheets.specs.declared.judge.Round.{Round}
use Rattle.sheets.specs.declared.sheet.Sheet.{Sheet}
use Rattle.sheets.proofs.Judging.{well_formed}
use Rattle.faults.specs.Faults.{malformed, start_fault, setting_fault, refused_for, sheet_fault, text_fault, fault_of}

module _ (s : List ℕ) where
  pub unread : (o : Maybe RawSheet) → parse s ≡ o → None ≡ parsed_of o → Some (malformed s) ≡ fault_of s
  unfolding fault_of text_fault
  unread none q e = rw q
  unread (some x) q e = absurd (none-some _ e)

  module _ {h : Sheet} where
    read : (o : Maybe RawSheet) → parse s ≡ o → Some h ≡ parsed_of o → (r : Result Round Cause) → r ≡ judged_text s →
        (x : RawSheet) × (h ≡ sheet_held x) × (sheet_fault r x ≡ fault_of s)
    unfolding fault_of text_fault judged_text judged_sheet
    read none q e r k = absurd (none-some _ (sym e))
    read (some x) q e r k = (x, same_Some _ _ e, rw (k, q))

    -- by what became of it
    module _ (e : Some h ≡ parsed_of (parse s)) {r : Result Round Cause} (k : r ≡ judged (raw_of h)) where
      sheet : (x : RawSheet) × (h ≡ sheet_held x) × (sheet_fault r x ≡ fault_of s)
      sheet = read (parse s) refl e r (k ∙ well_formed s (parse s) refl {h = h} e)

      pub accepted : {round : Round} → r ≡ Ok round → None ≡ fault_of s
      unfolding sheet_fault
      accepted v = let (x, _, f) = sheet in sym (ap (λ u. sheet_fault u x) v) ∙ f

      pub refused : (cause : Cause) → r ≡ Err cause →
          Some (refused_for (cause_number cause) (start_fault h.start.count h.n h.rule) (setting_fault h.top h.spacing)) ≡ fault_of s
      unfolding sheet_fault
      refused cause v =
          let (x, p, f) = sheet in
          ap (λ (y : Sheet). Some (refused_for (cause_number cause) (start_fault y.start.count y.n y.rule) (setting_fault y.top y.spacing))) p
          ∙ sym (ap (λ u. sheet_fault u x) v) ∙ f
