-- `ranking::bound` meets its contract. The loop's invariant: b is the bound of the symbols passed. Assumes nothing.
use mathlib.Core.Path.{◌≡◌}
use lib.ListN.{take}
use Rattle.weak_orders.specs.Window.{bound as boundOf}
use Rattle.ranking.proofs.bound.Given as goal

abbrev pub invariant-loop-x : goal.invariant-loop-x
invariant-loop-x l = l.b ≡ boundOf (take l.x-index l.x-items)
