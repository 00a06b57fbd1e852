-- `ranking::ways` meets its contract, by induction on the places. The loop's invariant: the total is the ways to fill the places added.
-- Assumes nothing.
use mathlib.Core.Path.{◌≡◌}
use Prim.Native.Nat.{max, ◌-◌, ◌≤◌}
use Rattle.ranking.specs.Counts.{ways as waysTo}
use Rattle.ranking.proofs.+ways.Given as goal

-- calls with so many places may count on calls with fewer
abbrev pub decreases-ways : goal.decreases-ways
decreases-ways l = l.rest

abbrev pub invariant-loop-others : goal.invariant-loop-others
invariant-loop-others l = (l.others ≤ max (l.missing - 1) l.rest) × (l.total ≡ waysTo l.others l.missing l.present)
