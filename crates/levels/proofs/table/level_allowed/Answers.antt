-- `level_allowed`: the range, then the remainder, which is 0 just if its bits are. Assumes nothing.
use mathlib.Core.Bool.{◌&&◌}
use mathlib.Core.Path.{◌≡◌, refl}
use native.Mathlib.Omega.{arith}
use lib.IntN.{pos, negsuc}
use lib.Signed.{le_z, rem_z, mag_rem}
use mir.Facts.{to_z-of_z}
use mir.Syntax.{w32}
use mir.Val.{SFits}
use borrow.Author.Rules.{rules}
use Rattle.levels.specs.Table.{level_allowed}
use Rattle.levels.proofs.Sizes.{zero_bits}
use Rattle.levels.proofs.Tables.{abs_rem}
use Rattle.levels.proofs.table.level_allowed.Goals.{After-contains}
use Rattle.levels.proofs.table.level_allowed.Goals as goal

range : (c : After-contains) → c.contains.result ≡ (le_z (negsuc 11999) c.args.level && le_z c.args.level (pos 2000))
range c = search rules

pub returns-then-contains : goal.returns-then-contains
unfolding level_allowed
returns-then-contains c =
    let z = c.args.level in
    let fits : SFits w32 (rem_z z (pos 25)) = record { sfits = omega (arith, mag_rem z (pos 25), c.ranges.level.sfits) } in
    rw (to_z-of_z c.ranges.level, zero_bits w32 refl (rem_z z (pos 25)) fits, abs_rem z 25, ← range (goal.at.returns-then-contains c).After-contains, c.if-contains.true)

pub returns-else-contains : goal.returns-else-contains
unfolding level_allowed
returns-else-contains c = rw (← range (goal.at.returns-else-contains c).After-contains, c.if-contains.false)
