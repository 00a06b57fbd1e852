-- What the tests of bytes say: all zero, and the same bytes. Assumes nothing.
use mathlib.Core.Bool.{true, false, ◌&&◌, false≢true}
use mathlib.Core.List.{List, [], ◌∷◌, head-eq_of_cons-eq, tail-eq_of_cons-eq}
use mathlib.Core.Path.{◌≡◌, refl, ap, ap₂}
use Prim.Native.Nat.{ℕ, ◌+◌, ◌≤◌, ◌<◌}
use native.Mathlib.Omega.{arith}
use lib.Dec.{eqb}
use lib.ListN.{length, drop}
use lib.Pointwise.{pointwise}
use Rattle.weak_orders.specs.Says.{Says}
use Rattle.weak_orders.proofs.Lists.{all_from, all_past}
use Rattle.weak_orders.proofs.Tests.{says_as, says_and, says_eq}
use Rattle.frames.specs.Fields.{byte, zeros, same_bytes}

-- the bytes from i on are zero just if the first is, and those behind it
pub zeros-drop : (f : List ℕ) (i : ℕ) → i < length f → zeros (drop i f) ≡ (eqb 0 (byte f i) && zeros (drop (i + 1) f))
unfolding zeros
zeros-drop f i h = all_from (eqb 0) 0 f i h

pub zeros-none : (f : List ℕ) (i : ℕ) → length f ≤ i → zeros (drop i f) ≡ true
unfolding zeros
zeros-none f i h = all_past (eqb 0) f i h

-- a test that fails says what does not hold
never : {A : Type 0} → ¬ A → Says false A
never n = record { to = λ t. absurd (false≢true t); of = λ h. absurd (n h) }

pub says_same_bytes : (u v : List ℕ) → Says (same_bytes u v) (u ≡ v)
unfolding same_bytes
says_same_bytes [] [] = record { to = λ t. refl; of = λ e. refl }
says_same_bytes [] (y ∷ v) = never (λ e. let z : ◌≡◌ {A = ℕ} 0 1 = cc in omega arith)
says_same_bytes (x ∷ u) [] = never (λ e. let z : ◌≡◌ {A = ℕ} 0 1 = cc in omega arith)
says_same_bytes (x ∷ u) (y ∷ v) = says_as (says_and (says_eq x y) (says_same_bytes u v))
    (λ h. ap₂ ◌∷◌ h.0 h.1)
    (λ e. (head-eq_of_cons-eq e, tail-eq_of_cons-eq e))

-- `==` of two slices of bytes is that test
pub pointwise_same_bytes : (u v : List ℕ) → pointwise eqb u v ≡ same_bytes u v
unfolding same_bytes
pointwise_same_bytes [] [] = refl
pointwise_same_bytes [] (y ∷ v) = refl
pointwise_same_bytes (x ∷ u) [] = refl
pointwise_same_bytes (x ∷ u) (y ∷ v) = ap (λ t. eqb x y && t) (pointwise_same_bytes u v)
