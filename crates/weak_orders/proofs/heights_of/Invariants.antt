-- `heights_of`: the array holds the heights found so far. Assumes nothing.
use mathlib.Core.Path.{◌≡◌}
use lib.ListN.{length, take}
use Rattle.weak_orders.specs.Window.{heights, padded}
use Rattle.weak_orders.proofs.heights_of.Given as goal

abbrev pub invariant-loop-i : goal.invariant-loop-i
invariant-loop-i l = (l.v ≡ padded (take l.i (heights (take l.n l.w)))) × (length l.v ≡ 16)
