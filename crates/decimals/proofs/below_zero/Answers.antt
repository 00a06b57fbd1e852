-- `below_zero`: no decimal, or zero; or the number below zero. Assumes nothing.
use native.Mathlib.Omega.{arith}
use mathlib.Core.Path.{◌≡◌}
use Prim.Native.Nat.{◌-◌, ◌<◌}
use lib.IntN.{negsuc, pos, ◌-ℤ◌}
use mir.Syntax.{w32}
use mir.Val.{to_z, of_z}
use Rattle.std.proofs.lemmas.Int.{ints}
use Rattle.decimals.specs.Reading.{found, number, negative}
use Rattle.decimals.proofs.Answers.{found_taken, not_as, number_bounds, negative_found}
use Rattle.decimals.proofs.below_zero.Goals.{In_ok-value}
use Rattle.decimals.proofs.below_zero.Goals as goal

read : (c : In_ok-value) → number c.args.s.now ≡ found c.in_ok-value.field-0.value c.in_ok-value.field-0.len
read c = found_taken _ c.in_ok-value.ensures

pub returns-in_err-value : goal.returns-in_err-value
unfolding negative
returns-in_err-value c = rw (c.from_residual.ensures, not_as (λ x. x) (number c.args.s.now) c.in_err-value.ensures)

pub returns-then-value-eq0 : goal.returns-then-value-eq0
unfolding negative
returns-then-value-eq0 c = rw (read (goal.at.returns-then-value-eq0 c).In_ok-value, c.if-value-eq0.true)

pub overflow_sub-result : goal.overflow_sub-result
overflow_sub-result c =
    let b = number_bounds _ (read (goal.at.overflow_sub-result c).In_ok-value) in
    let v = c.in_ok-value.field-0.value in
    let z : pos 0 -ℤ to_z w32 (of_z w32 c.cast_signed.result) ≡ negsuc (v - 1) = omega (arith, ints, c.cast_signed.ensures) in
    rw z (record { sfits = omega arith })

pub overflow_add-result : goal.overflow_add-result
overflow_add-result c = record { fits = omega (arith, number_bounds _ (read (goal.at.overflow_add-result c).In_ok-value)) }

pub returns : goal.returns
returns c =
    let r = read (goal.at.returns c).In_ok-value in
    let b = number_bounds _ r in
    let v = c.in_ok-value.field-0.value in
    let z : to_z w32 (of_z w32 (pos 0 -ℤ to_z w32 (of_z w32 c.cast_signed.result))) ≡ negsuc (v - 1) = omega (arith, ints, c.cast_signed.ensures) in
    let p : 0 < v = omega arith in
    rw (r, negative_found v c.in_ok-value.field-0.len p, z)
