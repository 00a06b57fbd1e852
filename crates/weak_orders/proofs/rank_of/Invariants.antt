-- `rank_of`: 1 plus the smaller symbols among those passed. Assumes nothing.
use mathlib.Core.Path.{◌≡◌}
use Prim.Native.Nat.{suc}
use lib.ListN.{take}
use Rattle.weak_orders.specs.Window.{below}
use Rattle.weak_orders.proofs.rank_of.Given as goal

abbrev pub invariant-loop-x : goal.invariant-loop-x
invariant-loop-x l = l.rank ≡ suc (below (take l.x-index l.x-items) l.v)
