-- The rotation of a window that a rule compares with, for every rule, window and n (document 02, Paper 5).
use Rattle.std.specs.Prelude.{cond, List, ℕ, Result, eqb}
use Rattle.refusals.specs.declared.Cause.{Cause}
use Rattle.rotations.specs.Rotation.{least_rotation, greatest_rotation}
use Rattle.rotations.specs.declared.Rotation.{Rotation}
use Rattle.successors.specs.NextSymbol.{judged, answer_by}

-- the least under rule 1, and the greatest under rules 2 and 3
unfoldable pub rotation_under : ℕ → List ℕ → Rotation
unfolding least_rotation greatest_rotation
rotation_under rule w = cond (eqb rule 1) (least_rotation w) (greatest_rotation w)

-- where a window's rotation starts, and the window's period
unfoldable pub rotation_answer : ℕ → ℕ → List ℕ → Result Rotation Cause
unfolding answer_by judged rotation_under
rotation_answer rule n w = answer_by (judged rule n w) (rotation_under rule w)
