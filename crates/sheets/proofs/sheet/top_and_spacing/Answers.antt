-- `top_and_spacing`: the second field stands where the first one ends. Assumes nothing.
use mathlib.Core.Path.{◌≡◌, refl, sym, ap, ◌∙◌}
use Rattle.decimals.specs.Held.{taken}
use Rattle.decimals.specs.Reading.{found, next, both, ended, number, signed_number}
use Rattle.decimals.proofs.Answers.{field-missing, field-other, field_taken, both-none}
use Rattle.decimals.proofs.Readers.{takes_within}
use Rattle.sheets.specs.Sheet.{top_and_spacing}
use Rattle.sheets.proofs.SheetTexts.{reads_signed_field}
use Rattle.sheets.proofs.sheet.top_and_spacing.Goals.{In_ok-top}
use Rattle.sheets.proofs.sheet.top_and_spacing.Goals as goal

first : (c : In_ok-top) → ended signed_number 32 c.args.s.now ≡ found c.in_ok-top.top.value c.in_ok-top.top.len
first c = field_taken signed_number 32 refl c.in_ok-signed_number.ensures c.in_ok-top.ensures

pub returns-in_err-signed_number : goal.returns-in_err-signed_number
unfolding top_and_spacing
returns-in_err-signed_number c = rw (c.from_residual.ensures, both-none (ended signed_number 32) (ended number 32) c.args.s.now (field-missing (λ x. x) signed_number 32 refl c.in_err-signed_number.ensures))

pub returns-in_err-top : goal.returns-in_err-top
unfolding top_and_spacing
returns-in_err-top c =
    let e = field-other (λ x. x) signed_number 32 refl c.in_ok-signed_number.ensures c.in_err-top.ensures in
    rw (c.from_residual-in_err-top.ensures, both-none (ended signed_number 32) (ended number 32) c.args.s.now e)

pub and_number-requires : goal.and_number-requires
and_number-requires c = takes_within (reads_signed_field.sound _ _ _ (first (goal.at.and_number-requires c).In_ok-top)).0

pub returns : goal.returns
unfolding top_and_spacing both
returns c = c.and_number.ensures ∙ ap (λ f. taken (next f (ended number 32) c.args.s.now)) (sym (first (goal.at.returns c).In_ok-top))
