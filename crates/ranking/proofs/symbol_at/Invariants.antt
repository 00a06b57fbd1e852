-- `ranking::symbol_at` meets its contract. The loop's invariant: the counts passed and the rest add up to the place. Assumes nothing.
use mathlib.Core.Path.{◌≡◌}
use Prim.Native.Nat.{◌+◌, ◌-◌, ◌<◌}
use lib.ListN.{get_or}
use Rattle.ranking.specs.Counts.{sum}
use Rattle.ranking.proofs.symbol_at.Given as goal

abbrev pub invariant-loop-v : goal.invariant-loop-v
invariant-loop-v l = (l.v < l.n) × (sum (λ u. get_or l.counts u 0) l.v + l.rest ≡ l.left)

abbrev pub decreases-loop-v : goal.decreases-loop-v
decreases-loop-v l = l.n - l.v
