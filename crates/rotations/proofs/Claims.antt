-- The claims on rotations. Assumes nothing.
use mathlib.Core.Bool.{Bool, true}
use mathlib.Core.List.{List, [], ◌∷◌}
use mathlib.Core.Path.{◌≡◌}
use Prim.Native.Nat.{ℕ, suc, ◌-◌, ◌≤◌}
use native.Mathlib.Omega.{arith}
use lib.ListN.{length}
use Rattle.weak_orders.specs.Says.{Says}
use Rattle.rotations.specs.Claims.{IsStart, Rotations, Periods}
use Rattle.rotations.specs.Rotation.{rotation, is_least, is_greatest, start, start_greatest}
use Rattle.rotations.proofs.Forms.{rank_rotation, height-rotation}
use Rattle.rotations.proofs.Periods.{period_of, one_ring}
use Rattle.rotations.proofs.Rotations.{◌⟳◌, says_least, says_greatest, StartBy, start_first, greatest_first}

is_start : {le : List ℕ → List ℕ → Bool} (x : ℕ) (b : List ℕ) (test : List ℕ → Bool) (s : ℕ) →
    ((u : List ℕ) → Says (test u) ((v : List ℕ) → x ∷ b ⟳ v → le u v ≡ true)) → (i : ℕ) × (s ≡ suc i) × StartBy le (x ∷ b) i →
    IsStart test (x ∷ b) s
is_start x b test s says (i, e, S) =
    let back : s - 1 ≡ i = omega arith in
    record {
      low = omega arith;
      high = omega (arith, S.inside);
      passes = rw back ((says (rotation (x ∷ b) i)).of S.lowest);
      first = λ j lt t. omega (arith, S.first j lt ((says (rotation (x ∷ b) j)).to t));
    }

least_start : (w : List ℕ) → 1 ≤ length w → IsStart (is_least w) w (start w)
least_start [] pos = absurd (omega arith)
least_start (x ∷ b) pos = is_start x b _ _ (says_least x b) (start_first x b)

greatest_start : (w : List ℕ) → 1 ≤ length w → IsStart (is_greatest w) w (start_greatest w)
greatest_start [] pos = absurd (omega arith)
greatest_start (x ∷ b) pos = is_start x b _ _ (says_greatest x b) (greatest_first x b)

pub rotations : Rotations
rotations = record {
  rank_rotation = rank_rotation;
  height-rotation = height-rotation;
  least_start = least_start;
  greatest_start = greatest_start;
}

pub periods : Periods
periods = record { period_of = period_of; one_ring = one_ring }
