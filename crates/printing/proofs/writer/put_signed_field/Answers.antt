-- `put_signed_field`: a minus where it is below zero, the decimal, and the byte behind it. Assumes nothing.
use native.Mathlib.Omega.{arith}
use mathlib.Core.List.{[], ◌∷◌, ◌++◌}
use mathlib.Core.Path.{◌≡◌, ap, ◌∙◌}
use lib.IntN.{nat_abs}
use lib.ListN.{length}
use mir.Facts.{to_z-of_z}
use Rattle.decimals.specs.Text.{decimal, signed}
use Rattle.printing.proofs.Written.{wrote_then}
use Rattle.printing.proofs.WrittenLists.{signed_below, signed_above}
use Rattle.printing.proofs.writer.put_signed_field.Goals.{Else-z-lt0, Then-z-lt0}
use Rattle.printing.proofs.writer.put_signed_field.Goals as goal

-- the text, below zero and from zero on
below : (c : Then-z-lt0) → let a = c.args in
    signed a.z ++ (a.end ∷ []) ≡ 45 ∷ (decimal c.from-v.result ++ (a.end ∷ []))
below c =
    let s = c in
    rw (signed_below s.args.z (simp (to_z-of_z s.ranges.z) at c.if-z-lt0.true), c.from-v.ensures ∙ c.unsigned_abs.ensures.value ∙ ap nat_abs (to_z-of_z c.ranges.z))

above : (c : Else-z-lt0) → let a = c.args in
    signed a.z ++ (a.end ∷ []) ≡ decimal c.from-v.result ++ (a.end ∷ [])
above c =
    let s = c in
    rw (signed_above s.args.z (simp (to_z-of_z s.ranges.z) at c.if-z-lt0.false), c.from-v.ensures ∙ c.unsigned_abs.ensures.value ∙ ap nat_abs (to_z-of_z c.ranges.z))

pub put-next-requires : goal.put-next-requires
put-next-requires c = let t = (goal.at.put-next-requires c).Then-z-lt0 in
    omega (arith, t.requires, ap length (below t))

pub put_decimal_field-requires : goal.put_decimal_field-requires
put_decimal_field-requires c = let p = c in
    let t = (goal.at.put_decimal_field-requires c).Then-z-lt0 in
    omega (arith, t.requires, ap length (below t), p.put-next.ensures.end, p.put-next.auto.out)

pub returns-then-z-lt0 : goal.returns-then-z-lt0
returns-then-z-lt0 c = let d = c in
    let p = d in
    let t = (goal.at.returns-then-z-lt0 c).Then-z-lt0 in
    rw (below t) (wrote_then p.put-next.ensures d.put_decimal_field.ensures (omega (arith, t.requires, ap length (below t))))

pub put_decimal_field-requires-2 : goal.put_decimal_field-requires-2
put_decimal_field-requires-2 c = let e = (goal.at.put_decimal_field-requires-2 c).Else-z-lt0 in
    omega (arith, e.requires, ap length (above e))

pub returns : goal.returns
returns c = let d = c in
    rw (above (goal.at.returns c).Else-z-lt0) d.put_decimal_field-2.ensures
