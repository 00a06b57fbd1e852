-- `ranking::row_sums_of` meets its contract: the table's test, carried to each entry of the row. The loop's invariant: the total is the sum
-- from m on, and each entry from m on is such a total. Assumes nothing.
use mathlib.Core.Path.{◌≡◌}
use Prim.Native.Nat.{ℕ, ◌≤◌, ◌<◌}
use lib.ListN.{length, get_or}
use Rattle.ranking.specs.Counts.{ways_from}
use Rattle.ranking.proofs.row_sums_of.Given as goal

abbrev pub invariant-loop-m : goal.invariant-loop-m
invariant-loop-m l = (l.total ≡ ways_from l.n l.m 0)
    × (length l.sums ≡ 17)
    × ((i : ℕ) → l.m ≤ i → i < 17 → get_or l.sums i 0 ≡ ways_from l.n i 0)
