-- `rounded` meets its contract, by the sign of z: what is divided is never below zero. Assumes nothing.
use mathlib.Core.Path.{◌≡◌, ap, ◌∙◌}
use Prim.Native.Nat.{◌+◌, ◌≤◌, ◌^◌}
use native.Mathlib.Omega.{arith}
use lib.IntN.{pos, nat_abs, ◌-ℤ◌}
use mir.Facts.{to_z-of_z, to_z_pos}
use mir.Syntax.{w32}
use mir.Val.{SFits, to_z, of_z}
use Rattle.levels.specs.Level.{nearest, rounded}
use Rattle.levels.proofs.NearestMultiple.{nearest_le, rounded-negative, rounded-positive}
use Rattle.levels.proofs.Sizes.{abs_mag, rounded-mag}
use Rattle.levels.proofs.rounded.Goals.{After-nearest-size, Then-z-lt0}
use Rattle.levels.proofs.rounded.Goals as goal

-- how far z is from zero has room, and so has the nearest multiple
small : (c : After-nearest-size) → nearest (nat_abs c.args.z) ≤ 2 ^ 25 + 12
small c = omega (arith, nearest_le (nat_abs c.args.z), abs_mag c.args.z, c.requires)

size : (c : After-nearest-size) → c.nearest-size.result ≡ nearest (nat_abs c.args.z)
size c = c.nearest-size.ensures ∙ ap nearest (c.unsigned_abs.ensures.value ∙ ap nat_abs (to_z-of_z c.ranges.z))

signed : (c : After-nearest-size) → to_z w32 c.nearest-size.result ≡ pos (nearest (nat_abs c.args.z))
signed c = rw (size c) (to_z_pos w32 {n = nearest (nat_abs c.args.z)} (omega (arith, small c)))

pub overflow_cast-size : goal.overflow_cast-size
overflow_cast-size c = record { sfits = omega (arith, size c, small c) }

-- so far below zero
lower : (c : Then-z-lt0) → pos 0 -ℤ to_z w32 c.nearest-size.result ≡ rounded c.args.z
lower c = rw (signed c.before) (rounded-negative c.args.z (simp (to_z-of_z c.ranges.z) at c.if-z-lt0.true))

lower-fits : (c : Then-z-lt0) → SFits w32 (rounded c.args.z)
lower-fits c = record { sfits = omega (arith, rounded-mag c.args.z, c.requires) }

pub overflow_sub-result : goal.overflow_sub-result
overflow_sub-result c = rw (lower c) (lower-fits c)

pub returns-then-z-lt0 : goal.returns-then-z-lt0
returns-then-z-lt0 c = ap (λ x. to_z w32 (of_z w32 x)) (lower c) ∙ to_z-of_z (lower-fits c)

pub returns-else-z-lt0 : goal.returns-else-z-lt0
returns-else-z-lt0 c = signed c.before ∙ rounded-positive c.args.z (simp (to_z-of_z c.ranges.z) at c.if-z-lt0.false)
