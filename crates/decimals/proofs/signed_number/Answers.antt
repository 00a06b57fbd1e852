-- `signed_number`: a minus tells which. Assumes nothing.
use Rattle.decimals.proofs.Cursors.{part_from}
use native.Mathlib.Omega.{arith}
use mathlib.Core.Path.{◌≡◌, sym, ap, ◌∙◌}
use lib.IntN.{pos}
use mir.Syntax.{w32}
use mir.Val.{to_z, of_z}
use Rattle.std.proofs.lemmas.Int.{ints}
use Rattle.decimals.specs.Held.{taken}
use Rattle.decimals.specs.Reading.{number, positive, negative}
use Rattle.decimals.proofs.Answers.{found_taken, not_as, number_bounds, signed_minus, signed_plain, starts_within}
use Rattle.decimals.proofs.signed_number.Goals as goal

pub slice_bounds-below_zero-count : goal.slice_bounds-below_zero-count
slice_bounds-below_zero-count c = omega (arith, starts_within 45 c.args.s.now 0 (sym c.if-starts_with.ensures))

pub slice_bounds-below_zero-start : goal.slice_bounds-below_zero-start
slice_bounds-below_zero-start c = omega (arith, starts_within 45 c.args.s.now 0 (sym c.if-starts_with.ensures))

pub returns-then-starts_with : goal.returns-then-starts_with
returns-then-starts_with c =
    c.below_zero.ensures ∙ ap (λ l. taken (negative (number l))) (part_from c.args.s.now 1)
    ∙ ap taken (sym (signed_minus c.args.s.now (sym c.if-starts_with.ensures)))

pub returns-in_err-value : goal.returns-in_err-value
unfolding positive
returns-in_err-value c =
    let plain = signed_plain c.args.s.now (sym c.if-starts_with.ensures) in
    rw (c.from_residual.ensures, plain, not_as (λ x. x) (number c.args.s.now) c.in_err-value.ensures)

pub returns : goal.returns
unfolding positive
returns c =
    let plain = signed_plain c.args.s.now (sym c.if-starts_with.ensures) in
    let r = found_taken (number c.args.s.now) c.in_ok-value.ensures in
    let b = number_bounds _ r in
    let z : to_z w32 (of_z w32 c.cast_signed.result) ≡ pos c.in_ok-value.field-0.value = omega (arith, ints, c.cast_signed.ensures) in
    rw (plain, r, z)
