-- `search` finds the first of the rotations, in either direction. The loop's invariant: of the first j rotations the one from `best` comes
-- first, no earlier index has it, and no later one so far. Assumes nothing.
use Prim.Native.Nat.{max, ◌≤◌}
use lib.ListN.{take}
use Rattle.std.specs.Ordering.{is_gt}
use Rattle.rotations.proofs.RotationSearch.{First, le_of}
use Rattle.rotations.proofs.search.Given as goal

abbrev pub invariant-loop-j : goal.invariant-loop-j
invariant-loop-j l = (l.j ≤ max 1 l.end) × First (le_of (is_gt l.better)) (take l.end l.w) l.best l.j
