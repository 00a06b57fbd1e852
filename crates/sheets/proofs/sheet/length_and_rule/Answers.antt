-- `length_and_rule`: the second field stands where the first one ends. Assumes nothing.
use mathlib.Core.Path.{◌≡◌, refl, sym, ap, ◌∙◌}
use Rattle.decimals.specs.Held.{taken}
use Rattle.decimals.specs.Reading.{found, next, both, ended, number}
use Rattle.decimals.proofs.Answers.{field-missing, field-other, field_taken, both-none}
use Rattle.decimals.proofs.Readers.{takes_within}
use Rattle.sheets.specs.Sheet.{length_and_rule}
use Rattle.sheets.proofs.SheetTexts.{reads_field}
use Rattle.sheets.proofs.sheet.length_and_rule.Goals.{In_ok-n}
use Rattle.sheets.proofs.sheet.length_and_rule.Goals as goal

first : (c : In_ok-n) → ended number 32 c.args.s.now ≡ found c.in_ok-n.n.value c.in_ok-n.n.len
first c = field_taken number 32 refl c.in_ok-number.ensures c.in_ok-n.ensures

pub returns-in_err-number : goal.returns-in_err-number
unfolding length_and_rule
returns-in_err-number c = rw (c.from_residual.ensures, both-none (ended number 32) (ended number 32) c.args.s.now (field-missing (λ x. x) number 32 refl c.in_err-number.ensures))

pub returns-in_err-n : goal.returns-in_err-n
unfolding length_and_rule
returns-in_err-n c =
    let e = field-other (λ x. x) number 32 refl c.in_ok-number.ensures c.in_err-n.ensures in
    rw (c.from_residual-in_err-n.ensures, both-none (ended number 32) (ended number 32) c.args.s.now e)

pub and_number-requires : goal.and_number-requires
and_number-requires c = takes_within (reads_field.sound _ _ _ (first (goal.at.and_number-requires c).In_ok-n)).0

pub returns : goal.returns
unfolding length_and_rule both
returns c = c.and_number.ensures ∙ ap (λ f. taken (next f (ended number 32) c.args.s.now)) (sym (first (goal.at.returns c).In_ok-n))
