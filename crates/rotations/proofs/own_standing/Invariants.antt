-- `own_standing` goes through the rotations as `search` does, and ends where the window is not the first any more. The loop's invariant: of
-- the first i rotations, the greatest first, the window itself comes first, and none is the same. Assumes nothing.
use Prim.Native.Nat.{max, ◌≤◌}
use lib.ListN.{take}
use Rattle.rotations.proofs.Orders.{lex_ge}
use Rattle.rotations.proofs.RotationSearch.{First}
use Rattle.rotations.proofs.own_standing.Given as goal

abbrev pub invariant-loop-i : goal.invariant-loop-i
invariant-loop-i l = (l.i ≤ max 1 l.end) × First lex_ge (take l.end l.w) 0 l.i
