-- `compare` compares the two rotations. The loop's invariant: what is left of them from index k compares as they do. Assumes nothing.
use mathlib.Core.Path.{◌≡◌}
use lib.ListN.{take, drop}
use Rattle.rotations.specs.Order.{compared}
use Rattle.rotations.specs.Rotation.{rotation}
use Rattle.rotations.proofs.compare.Given as goal

abbrev pub invariant-loop-k : goal.invariant-loop-k
invariant-loop-k l = compared (rotation (take l.n l.w) l.i) (rotation (take l.n l.w) l.j) ≡ compared (drop l.k (rotation (take l.n l.w) l.i)) (drop l.k (rotation (take l.n l.w) l.j))
