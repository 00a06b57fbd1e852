-- A step is a change of the first symbol and a rotation by one. Assumes nothing.
use mathlib.Core.List.{List, [], ◌∷◌}
use mathlib.Core.Path.{◌≡◌, refl}
use Prim.Native.Nat.{ℕ, ◌<◌}
use native.Mathlib.Omega.{arith}
use lib.ListN.{length}
use Rattle.weak_orders.specs.Window.{shifted}
use Rattle.rotations.proofs.Rotations.{turn}
use Rattle.successors.specs.Rules.{step}

-- A window with its first symbol replaced by a rule's, and then turned, has made a step.
unfoldable pub change : (List ℕ → ℕ) → List ℕ → List ℕ
change rule [] = []
change rule (x ∷ b) = rule (x ∷ b) ∷ b

pub turn_change : (rule : List ℕ → ℕ) (w : List ℕ) → 0 < length w → turn (change rule w) ≡ step rule w
unfolding turn change step shifted
turn_change rule [] lt = absurd (omega arith)
turn_change rule (x ∷ b) lt = refl

pub length_change : (rule : List ℕ → ℕ) (w : List ℕ) → length (change rule w) ≡ length w
unfolding change
length_change rule [] = refl
length_change rule (x ∷ b) = refl
