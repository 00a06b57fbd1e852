-- `counts`: the table is that of the symbols passed so far. Assumes nothing.
use mathlib.Core.Path.{◌≡◌}
use lib.ListN.{take}
use Rattle.weak_orders.specs.Tables.{tally}
use Rattle.weak_orders.proofs.counts.Given as goal

abbrev pub invariant-loop-v : goal.invariant-loop-v
invariant-loop-v l = l.t ≡ tally (take l.v-index l.v-items)
