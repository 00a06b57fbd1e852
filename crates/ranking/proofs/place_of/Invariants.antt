-- `ranking::place_of` meets its contract. The loop's invariant: the sum of what the symbols passed add to the place. Assumes nothing.
use mathlib.Core.Path.{◌≡◌}
use Prim.Native.Nat.{◌≤◌}
use lib.ListN.{take}
use Rattle.ranking.specs.Counts.{sum}
use Rattle.ranking.proofs.Places.{place_at}
use Rattle.ranking.proofs.place_of.Given as goal

abbrev pub invariant-loop-i : goal.invariant-loop-i
invariant-loop-i l = (l.n ≤ 16) × (l.before ≡ sum (place_at (take l.n l.w)) l.i)
