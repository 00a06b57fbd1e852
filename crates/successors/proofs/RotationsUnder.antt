-- The rotation that a rule compares with, as an answer. Assumes nothing.
use mathlib.Core.List.{List}
use mathlib.Core.Path.{◌≡◌, refl}
use Prim.Native.Nat.{ℕ, ◌≤◌}
use native.Mathlib.Omega.{arith}
use lib.Dec.{eqb}
use Rattle.refusals.specs.declared.Cause.{Cause}
use Rattle.std.specs.Prelude.{Result, Ok, Err}
use Rattle.weak_orders.proofs.Tests.{by_test}
use Rattle.rotations.specs.Rotation.{least_rotation, greatest_rotation}
use Rattle.rotations.specs.declared.Rotation.{Rotation}
use Rattle.rotations.proofs.Periods.{bounded}
use Rattle.successors.specs.NextSymbol.{judged, answer_by}
use Rattle.successors.specs.RotationUnder.{rotation_under, rotation_answer}
use Rattle.successors.proofs.Steppable.{judged-length}

-- where there is one, neither of its numbers is larger than 16
pub found_bounds : (rule n : ℕ) (w : List ℕ) (r : Rotation) → rotation_answer rule n w ≡ Ok r → (r.start ≤ 16) × (r.period ≤ 16)
unfolding rotation_answer answer_by rotation_under least_rotation greatest_rotation
found_bounds rule n w r e = go (judged rule n w) refl
  where
    within : rotation_under rule w ≡ r → judged rule n w ≡ Ok tt → (r.start ≤ 16) × (r.period ≤ 16)
    within is q =
        let (le, l) = judged-length rule n w q in
        let (s, g, p) = bounded w 16 (omega arith) (omega arith) in
        rw (← is) (by_test (eqb rule 1) (λ t. rw t (s, p)) (λ t. rw t (g, p)))

    go : (v : Result (Unit {0}) Cause) → judged rule n w ≡ v → (r.start ≤ 16) × (r.period ≤ 16)
    go (Ok tt) q = let e' = rw q at e in let is : rotation_under rule w ≡ r = cc e' in within is q
    go (Err c) q = let e' = rw q at e in absurd (let z : ◌≡◌ {A = ℕ} 0 1 = cc in omega arith)
