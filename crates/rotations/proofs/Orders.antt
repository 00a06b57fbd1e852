-- Dictionary order is a total order, in both directions, and a list that is not empty has a least member in any total order. Assumes nothing.
use mathlib.Core.Bool.{Bool, true, false, false≢true}
use mathlib.Core.List.Memᴰ
use mathlib.Core.List.{List, [], ◌∷◌}
use mathlib.Core.Logic.{◌⊎◌, inl, inr, ⊎_elim}
use mathlib.Core.Path.{◌≡◌, refl, sym, ap₂, ◌∙◌}
use Prim.Native.Nat.{ℕ, ◌≤◌, ◌<◌}
use native.Mathlib.Omega.{arith}
use native.Mathlib.Decide.{dec_lt, ℕ_discrete}
use borrow.Author.Tests.{lt-ltb, le-ltb, eq-eqb, ne_eqb, not-true}
use Rattle.weak_orders.specs.Says.{Says}
use Rattle.weak_orders.proofs.Tests.{◌∈◌, here, there, split_mem, says_as, says_itself, says_and, says_lt}
use Rattle.rotations.specs.Order.{lex_le, lex_lt, same}

-- the order of two strings with a first symbol each
pub lex_cons : (x : ℕ) (u : List ℕ) (y : ℕ) (v : List ℕ) → Says (lex_le (x ∷ u) (y ∷ v)) ((x < y) ⊎ ((x ≡ y) × (lex_le u v ≡ true)))
unfolding lex_le
lex_cons x u y v = elim (ℕ_discrete x y) [
  | yes e ↦ rw (eq-eqb x y e) (record { to = λ t. inr (e, t); of = ⊎_elim (λ lt. absurd (omega arith)) (λ h. h.1) })
  | no ne ↦ rw (ne_eqb x y ne) (says_as (says_lt x y) inl (⊎_elim (λ lt. lt) (λ h. absurd (ne h.0))))
]

pub lex_refl : (u : List ℕ) → lex_le u u ≡ true
lex_refl [] = unfold lex_le in refl
lex_refl (x ∷ u) = (lex_cons x u x u).of (inr (refl, lex_refl u))

pub lex_trans : (u v w : List ℕ) → lex_le u v ≡ true → lex_le v w ≡ true → lex_le u w ≡ true
lex_trans [] v w a b = unfold lex_le in refl
lex_trans (x ∷ u) [] w a b = unfold lex_le in absurd (false≢true a)
lex_trans (x ∷ u) (y ∷ v) [] a b = unfold lex_le in absurd (false≢true b)
lex_trans (x ∷ u) (y ∷ v) (z ∷ w) a b = (lex_cons x u z w).of (⊎_elim
    (λ lt. inl (⊎_elim (λ lt'. omega arith) (λ (e, _). omega arith) ((lex_cons y v z w).to b)))
    (λ (e, t). ⊎_elim (λ lt'. inl (omega arith)) (λ (e', t'). inr (omega arith, lex_trans u v w t t')) ((lex_cons y v z w).to b))
    ((lex_cons x u y v).to a))

pub lex_antisymm : (u v : List ℕ) → lex_le u v ≡ true → lex_le v u ≡ true → u ≡ v
lex_antisymm [] [] a b = refl
lex_antisymm [] (y ∷ v) a b = unfold lex_le in absurd (false≢true b)
lex_antisymm (x ∷ u) [] a b = unfold lex_le in absurd (false≢true a)
lex_antisymm (x ∷ u) (y ∷ v) a b = ⊎_elim
    (λ lt. absurd (⊎_elim (λ lt'. omega arith) (λ (e, _). omega arith) ((lex_cons y v x u).to b)))
    (λ (e, t). ⊎_elim (λ lt. absurd (omega arith)) (λ (_, t'). ap₂ ◌∷◌ e (lex_antisymm u v t t')) ((lex_cons y v x u).to b))
    ((lex_cons x u y v).to a)

pub lex_total : (u v : List ℕ) → (lex_le u v ≡ true) ⊎ (lex_le v u ≡ true)
lex_total [] v = unfold lex_le in inl refl
lex_total (x ∷ u) [] = unfold lex_le in inr refl
lex_total (x ∷ u) (y ∷ v) = elim (ℕ_discrete x y) [
  | yes e ↦ ⊎_elim (λ t. inl ((lex_cons x u y v).of (inr (e, t)))) (λ t. inr ((lex_cons y v x u).of (inr (sym e, t)))) (lex_total u v)
  | no ne ↦ elim (dec_lt x y) [
    | yes lt ↦ inl ((lex_cons x u y v).of (inl lt))
    | no ge ↦ inr ((lex_cons y v x u).of (inl (omega arith)))
  ]
]

-- the first symbols of ordered strings are ordered
pub lex_head : (x : ℕ) (u : List ℕ) (y : ℕ) (v : List ℕ) → lex_le (x ∷ u) (y ∷ v) ≡ true → x ≤ y
lex_head x u y v t = ⊎_elim (λ lt. omega arith) (λ (e, _). omega arith) ((lex_cons x u y v).to t)

-- ---- both directions

-- a comparison of strings that is a total order: `le u v` says that v does not stand before u
pub record TotalOrder (le : List ℕ → List ℕ → Bool) : Type 0 where
  pub reflexive : (u : List ℕ) → le u u ≡ true
  pub transitive : (u v w : List ℕ) → le u v ≡ true → le v w ≡ true → le u w ≡ true
  pub antisymmetric : (u v : List ℕ) → le u v ≡ true → le v u ≡ true → u ≡ v
  pub total : (u v : List ℕ) → (le u v ≡ true) ⊎ (le v u ≡ true)

abbrev pub lex_ge : List ℕ → List ℕ → Bool
lex_ge u v = lex_le v u

pub upward : TotalOrder lex_le
upward = record { reflexive = lex_refl; transitive = lex_trans; antisymmetric = lex_antisymm; total = lex_total }

pub downward : TotalOrder lex_ge
downward = record {
  reflexive = lex_refl;
  transitive = λ u v w a b. lex_trans w v u b a;
  antisymmetric = λ u v a b. lex_antisymm u v b a;
  total = λ u v. lex_total v u;
}

pub says_same : (u v : List ℕ) → Says (same u v) (u ≡ v)
unfolding same
says_same u v = says_as (says_and (says_itself (lex_le u v)) (says_itself (lex_le v u)))
    (λ (a, b). lex_antisymm u v a b)
    (λ e. rw e (lex_refl v, lex_refl v))

-- ---- the strict order

pub lex_lt_nil : (u : List ℕ) → lex_lt u [] ≡ false
unfolding lex_lt lex_le
lex_lt_nil u = refl

-- the first symbols decide, or the rests where they are equal
module _ (x y : ℕ) (u v : List ℕ) where
  pub lex_lt_less : x < y → lex_lt (x ∷ u) (y ∷ v) ≡ true
  unfolding lex_lt lex_le
  lex_lt_less h = rw (ne_eqb y x (λ e. omega arith), le-ltb y x (omega arith))

  pub lex_lt_greater : y < x → lex_lt (x ∷ u) (y ∷ v) ≡ false
  unfolding lex_lt lex_le
  lex_lt_greater h = rw (ne_eqb y x (λ e. omega arith), lt-ltb y x (omega arith))

  pub lex_lt_equal : x ≡ y → lex_lt (x ∷ u) (y ∷ v) ≡ lex_lt u v
  unfolding lex_lt lex_le
  lex_lt_equal h = rw (eq-eqb y x (sym h))

pub lex_lt_irreflexive : (u : List ℕ) → lex_lt u u ≡ false
unfolding lex_lt
lex_lt_irreflexive u = rw (lex_refl u)

pub lex_lt_asymmetric : (u v : List ℕ) → lex_lt u v ≡ true → lex_lt v u ≡ false
unfolding lex_lt
lex_lt_asymmetric u v h =
    let e = not-true (lex_le v u) h in
    ⊎_elim (λ t. rw t) (λ t. absurd (false≢true (sym e ∙ t))) (lex_total u v)

-- ---- a list that is not empty has a member that is at most each other

module _ {A : Type 0} (le : A → A → Type 0) (total : (a b : A) → le a b ⊎ le b a) (trans : (a b c : A) → le a b → le b c → le a c) where
  self : (a b : A) → b ≡ a → le a b
  self a b e = rw e (⊎_elim (λ h. h) (λ h. h) (total a a))

  pub least_member : (a : A) (l : List A) → (m : A) × (m ∈ a ∷ l) × ((b : A) → b ∈ a ∷ l → le m b)
  least_member a [] = (a, here, λ b h. self a b (Memᴰ.eq_of_singleton h))
  least_member a (c ∷ l) =
      let (m, h, low) = least_member c l in
      ⊎_elim
      (λ am. (a, here, λ b k. split_mem (self a b) (λ k'. trans a m b am (low b k')) k))
      (λ ma. (m, there h, λ b k. split_mem (λ e. rw e ma) (low b) k))
      (total a m)
