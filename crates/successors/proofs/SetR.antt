-- Document 01's set R: the height windows that are their own greatest rotation, but for the all-zero one. Assumes nothing.
use mathlib.Core.List.{List, ◌∷◌}
use mathlib.Core.Logic.{◌⊎◌, inl, inr, ⊎_elim}
use mathlib.Core.Path.{◌≡◌, sym}
use Prim.Native.Nat.{ℕ, suc, ◌≤◌, ◌<◌}
use native.Mathlib.Omega.{arith}
use native.Mathlib.Decide.{ℕ_discrete}
use lib.Dec.{eqb}
use mathlib.Core.Bool.{true}
use Rattle.weak_orders.specs.Says.{Says}
use Rattle.weak_orders.specs.Window.{all, is_height}
use Rattle.weak_orders.proofs.HeightForm.{says_height}
use Rattle.weak_orders.proofs.Lists.{says_same}
use Rattle.weak_orders.proofs.Tests.{◌∈◌, here, there, split_mem, says_itself, says_and, says_not, says_all}
use Rattle.rotations.specs.Order.{lex_le}
use Rattle.rotations.specs.Rotation.{is_greatest}
use Rattle.rotations.proofs.Orders.{lex_antisymm, lex_head}
use Rattle.rotations.proofs.Rotations.{◌⟳◌, turned, ⟳-sym, to_front, says_greatest}
use Rattle.successors.specs.Rules.{in_r}

pub says_zeros : (w : List ℕ) → Says (all (eqb 0) w) ((x : ℕ) → x ∈ w → x ≡ 0)
says_zeros w = says_all (says_same 0) w

-- The set R: height windows that are their own greatest rotation, but for the all-zero one.
abbrev pub R : List ℕ → Type 0
R w = (in_r w ≡ true)

R_parts : (w : List ℕ) → Says (in_r w) ((is_height w ≡ true) × ((is_greatest w w ≡ true) × (¬ ((x : ℕ) → x ∈ w → x ≡ 0))))
unfolding in_r
R_parts w = says_and (says_itself (is_height w)) (says_and (says_itself (is_greatest w w)) (says_not (says_zeros w)))

pub R_height : (w : List ℕ) → R w → is_height w ≡ true
R_height w r = ((R_parts w).to r).0

pub R_greatest : (x : ℕ) (b v : List ℕ) → R (x ∷ b) → x ∷ b ⟳ v → lex_le v (x ∷ b) ≡ true
R_greatest x b v r c = (says_greatest x b (x ∷ b)).to ((R_parts (x ∷ b)).to r).1.0 v c

pub R_not-zeros : (w : List ℕ) → R w → ¬ ((x : ℕ) → x ∈ w → x ≡ 0)
R_not-zeros w r = ((R_parts w).to r).1.1

pub R_of : (x : ℕ) (b : List ℕ) → is_height (x ∷ b) ≡ true → ((v : List ℕ) → x ∷ b ⟳ v → lex_le v (x ∷ b) ≡ true) →
    ¬ ((y : ℕ) → y ∈ x ∷ b → y ≡ 0) → R (x ∷ b)
R_of x b h g z = (R_parts (x ∷ b)).of (h, ((says_greatest x b (x ∷ b)).of g, z))

-- Its first symbol is its largest, and not 0.
pub R_first : (x : ℕ) (b : List ℕ) → R (x ∷ b) → (y : ℕ) → y ∈ x ∷ b → y ≤ x
R_first x b r y m = let (c, turned) = to_front (x ∷ b) y m in lex_head y c x b (R_greatest x b (y ∷ c) r turned)

pub R_positive : (b : List ℕ) → ¬ R (0 ∷ b)
R_positive b r = R_not-zeros (0 ∷ b) r (λ y m. omega (arith, R_first 0 b r y m))

-- With the first symbol one less it is in height form still.
pub R_down : (x : ℕ) (b : List ℕ) → R (suc x ∷ b) → is_height (x ∷ b) ≡ true
R_down x b r = (says_height (x ∷ b)).of (λ z m y lt. there (rest z y lt (split_mem (λ e. inl e) (λ m'. inr (there m')) m)))
  where
    rest : (z y : ℕ) → y < z → (z ≡ x) ⊎ (z ∈ suc x ∷ b) → y ∈ b
    rest z y lt at =
        let low : z ≤ suc x = ⊎_elim (λ e. omega arith) (R_first (suc x) b r z) at in
        let m : y ∈ suc x ∷ b = ⊎_elim
        (λ e. (says_height (suc x ∷ b)).to (R_height (suc x ∷ b) r) (suc x) here y (omega arith))
        (λ m. (says_height (suc x ∷ b)).to (R_height (suc x ∷ b) r) z m y lt) at in
        split_mem (λ e. absurd (omega arith)) (λ m'. m') m

-- Two first symbols before one tail are neighbours.
pub R_near : (x y : ℕ) (b : List ℕ) → R (x ∷ b) → R (y ∷ b) → x < y → y ≡ suc x
R_near x y b r s lt = elim (ℕ_discrete (suc x) y) [
  | yes e ↦ sym e
  | no ne ↦
      let m : suc x ∈ y ∷ b = (says_height (y ∷ b)).to (R_height (y ∷ b) s) y here (suc x) (omega arith) in
      split_mem sym (λ m'. absurd (omega (arith, R_first x b r (suc x) (there m')))) m
]

-- A rotation class has at most one window in R.
pub R_one : (x : ℕ) (b : List ℕ) (y : ℕ) (c : List ℕ) → R (x ∷ b) → R (y ∷ c) → x ∷ b ⟳ y ∷ c → y ∷ c ≡ x ∷ b
R_one x b y c r s t = lex_antisymm (y ∷ c) (x ∷ b) (R_greatest x b (y ∷ c) r t) (R_greatest y c (x ∷ b) s (⟳-sym t))
