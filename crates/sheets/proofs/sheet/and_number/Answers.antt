-- `and_number`: the number stands where the first thing ends. Assumes nothing.
use native.Mathlib.Omega.{arith}
use lib.ListN.{length-drop}
use Rattle.decimals.specs.Reading.{next, further, number}
use Rattle.decimals.proofs.Answers.{field-missing, field-other, field_taken}
use Rattle.decimals.proofs.Cursors.{part_from}
use Rattle.decimals.proofs.Readers.{takes_within}
use Rattle.sheets.proofs.SheetTexts.{reads_field}
use Rattle.sheets.proofs.sheet.and_number.Goals as goal

pub returns-in_err-number : goal.returns-in_err-number
unfolding next further
returns-in_err-number g c = rw (c.from_residual.ensures, field-missing (λ x. x) number 32 (part_from c.args.s.now c.args.first.len) c.in_err-number.ensures)

pub returns-in_err-second : goal.returns-in_err-second
unfolding next further
returns-in_err-second g c =
    let e = field-other (λ x. x) number 32 (part_from c.args.s.now c.args.first.len) c.in_ok-number.ensures c.in_err-second.ensures in
    rw (c.from_residual-in_err-second.ensures, e)

pub overflow_add-result : goal.overflow_add-result
overflow_add-result g c =
    let e = field_taken number 32 (part_from c.args.s.now c.args.first.len) c.in_ok-number.ensures c.in_ok-second.ensures in
    record { fits = omega (arith, takes_within (reads_field.sound _ _ _ e).0, length-drop c.args.first.len c.args.s.now) }

pub returns : goal.returns
unfolding next further
returns g c =
    rw (field_taken number 32 (part_from c.args.s.now c.args.first.len) c.in_ok-number.ensures c.in_ok-second.ensures)
