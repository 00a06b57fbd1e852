-- `ranking::ways_from` meets its contract. The loop's invariant: the total is the ways with m or more, each entry from m on is such a
-- total, and those above rest are 0, as they have to be. Assumes nothing.
use mathlib.Core.Path.{◌≡◌}
use Prim.Native.Nat.{ℕ, ◌≤◌, ◌<◌}
use lib.ListN.{length, get_or}
use Rattle.ranking.specs.Counts.{ways_from}
use Rattle.ranking.proofs.ways_from.Given as goal

abbrev pub invariant-loop-m : goal.invariant-loop-m
invariant-loop-m l = (l.total ≡ ways_from l.rest l.m l.present)
    × (length l.totals ≡ 17)
    × ((i : ℕ) → l.m ≤ i → i < 17 → get_or l.totals i 0 ≡ ways_from l.rest i l.present)
