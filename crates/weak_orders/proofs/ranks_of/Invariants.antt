-- `ranks_of`: the array holds the ranks found so far. Assumes nothing.
use mathlib.Core.Path.{◌≡◌}
use lib.ListN.{length, take}
use Rattle.weak_orders.specs.Window.{ranks, padded}
use Rattle.weak_orders.proofs.ranks_of.Given as goal

abbrev pub invariant-loop-i : goal.invariant-loop-i
invariant-loop-i l = (l.v ≡ padded (take l.i (ranks (take l.n l.w)))) × (length l.v ≡ 16)
