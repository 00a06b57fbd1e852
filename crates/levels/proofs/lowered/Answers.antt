-- `lowered` meets its contract: the product is below 2 ^ 24, so that nothing wraps. Assumes nothing.
use Prim.Native.Nat.{◌*◌, ◌≤◌, ◌<◌, ◌^◌}
use native.Mathlib.Omega.{arith}
use lib.IntN.{pos, ◌-ℤ◌}
use mir.Facts.{to_z-of_z, to_z_pos, sfits_widen}
use mir.Syntax.{w16, w32}
use mir.Val.{SFits}
use borrow.Author.Rules.{rules}
use Rattle.levels.specs.Level.{lowered}
use Rattle.levels.proofs.Sizes.{drop_size, lowered_size}
use Rattle.levels.proofs.lowered.Goals as goal

pub returns : goal.returns
unfolding lowered
returns c =
    let s = c.args.setting in
    let top : SFits w16 s.top = search rules in
    let spacing : s.spacing < 2 ^ 16 = search rules in
    let count : c.args.count < 2 ^ 8 = search rules in
    let below : c.args.count * s.spacing ≤ 255 * 65535 = drop_size c.args.count s.spacing (omega arith) (omega arith) in
    let wide : SFits w32 s.top = sfits_widen tt top in
    let fits : SFits w32 (s.top -ℤ pos (c.args.count * s.spacing)) =
    record { sfits = omega (arith, lowered_size s c.args.count (omega (arith, top.sfits)) (omega arith) (omega arith)) } in
    rw (c.from-3.ensures, to_z-of_z top, c.from.ensures, c.from-2.ensures, to_z-of_z wide, to_z_pos w32 {n = c.args.count * s.spacing} (omega arith), to_z-of_z fits)
