-- Rules 2 and 3 over one tail: each is the identity, a swap or a cycle of three, and each undoes the other. Assumes nothing.
use mathlib.Core.List.{List, [], ◌∷◌}
use mathlib.Core.Logic.{◌⊎◌, inl, inr, ⊎_elim}
use mathlib.Core.Path.{◌≡◌, refl, ap}
use Prim.Native.Nat.{ℕ, zero, suc}
use native.Mathlib.Omega.{arith}
use mathlib.Core.Bool.{true}
use Rattle.weak_orders.specs.Window.{is_height}
use Rattle.weak_orders.proofs.Tests.{true?, not_true→false}
use Rattle.successors.specs.Rules.{in_r, rule2, rule3}
use Rattle.successors.proofs.FirstSymbol.{change}
use Rattle.successors.proofs.SetR.{R, R_height, R_positive, R_down, R_near}

-- Over the tail `b`: `a + 1` alone is in R; or `a + 1` and `a + 2` are.
pub record Two (a : ℕ) (b : List ℕ) : Type 0 where
  pub r0 : ¬ R (a ∷ b)
  pub r1 : R (suc a ∷ b)
  pub r2 : ¬ R (suc (suc a) ∷ b)

pub record Three (a : ℕ) (b : List ℕ) : Type 0 where
  pub r0 : ¬ R (a ∷ b)
  pub r1 : R (suc a ∷ b)
  pub r2 : R (suc (suc a) ∷ b)
  pub r3 : ¬ R (suc (suc (suc a)) ∷ b)

-- So a first symbol is in one of six places.
pub data Spot (b : List ℕ) : ℕ → Type 0 where
  out : {x : ℕ} → ¬ R (x ∷ b) → ¬ R (suc x ∷ b) → Spot b x
  low₂ : {a : ℕ} → Two a b → Spot b a
  high₂ : {a : ℕ} → Two a b → Spot b (suc a)
  low₃ : {a : ℕ} → Three a b → Spot b a
  mid₃ : {a : ℕ} → Three a b → Spot b (suc a)
  high₃ : {a : ℕ} → Three a b → Spot b (suc (suc a))

far : (x : ℕ) (b : List ℕ) → R (x ∷ b) → ¬ R (suc (suc x) ∷ b)
far x b r s = omega (arith, R_near x (suc (suc x)) b r s (omega arith))

pub spot : (b : List ℕ) (x : ℕ) → Spot b x
spot b x = elim (true? (in_r (x ∷ b))) [
  | no r0 ↦ elim (true? (in_r (suc x ∷ b))) [
    | no r1 ↦ out r0 r1
    | yes r1 ↦ elim (true? (in_r (suc (suc x) ∷ b))) [
      | no r2 ↦ low₂ (record { r0 = r0; r1 = r1; r2 = r2 })
      | yes r2 ↦ low₃ (record { r0 = r0; r1 = r1; r2 = r2; r3 = far (suc x) b r1 })
    ]
  ]
  | yes r ↦ inside x r
]
  where
    above : (y : ℕ) → R (suc y ∷ b) → R (y ∷ b) → Spot b (suc y)
    above zero r s = absurd (R_positive b s)
    above (suc y) r s = high₃ (record { r0 = λ t. far y b t r; r1 = s; r2 = r; r3 = far (suc y) b s })

    inside : (x : ℕ) → R (x ∷ b) → Spot b x
    inside zero r = absurd (R_positive b r)
    inside (suc y) r = elim (true? (in_r (y ∷ b))) [
      | yes s ↦ above y r s
      | no s ↦ elim (true? (in_r (suc (suc y) ∷ b))) [
        | no r2 ↦ high₂ (record { r0 = s; r1 = r; r2 = r2 })
        | yes r2 ↦ mid₃ (record { r0 = s; r1 = r; r2 = r2; r3 = far (suc y) b r })
      ]
    ]

-- What a rule does over a tail. In a cycle of three, `i` follows `a`, and `j` follows `i`.
pub record Cycle (rule : List ℕ → ℕ) (b : List ℕ) (a i j : ℕ) : Type 0 where
  pub from_low : rule (a ∷ b) ≡ i
  pub from_i : rule (i ∷ b) ≡ j
  pub from_j : rule (j ∷ b) ≡ a

pub record Moves (rule : List ℕ → ℕ) : Type 0 where
  pub stays : (x : ℕ) (b : List ℕ) → ¬ R (x ∷ b) → ¬ R (suc x ∷ b) → rule (x ∷ b) ≡ x
  pub rises : (a : ℕ) (b : List ℕ) → Two a b → rule (a ∷ b) ≡ suc a
  pub falls : (a : ℕ) (b : List ℕ) → Two a b → rule (suc a ∷ b) ≡ a
  pub cycles : (a : ℕ) (b : List ℕ) → Three a b → Cycle rule b a (suc a) (suc (suc a)) ⊎ Cycle rule b a (suc (suc a)) (suc a)

cycle2 : (a : ℕ) (b : List ℕ) → Three a b → Cycle rule2 b a (suc a) (suc (suc a))
unfolding rule2
cycle2 a b t = record {
  from_low = rw (t.r1);
  from_i = rw (t.r2);
  from_j = simp (
    not_true→false (in_r (suc (suc (suc a)) ∷ b)) t.r3,
    t.r2,
    t.r1,
  ) (omega arith);
}

pub moves2 : Moves rule2
unfolding rule2
moves2 = record {
  stays = λ x b r0 r1. simp (not_true→false (in_r (suc x ∷ b)) r1, not_true→false (in_r (x ∷ b)) r0);
  rises = λ a b t. rw (t.r1);
  falls = λ a b t. simp (
    not_true→false (in_r (suc (suc a) ∷ b)) t.r2,
    t.r1,
    not_true→false (in_r (a ∷ b)) t.r0,
  ) (omega arith);
  cycles = λ a b t. inl (cycle2 a b t);
}

cycle3 : (a : ℕ) (b : List ℕ) → Three a b → Cycle rule3 b a (suc (suc a)) (suc a)
unfolding rule3
cycle3 a b t = record {
  from_low = simp (not_true→false (in_r (a ∷ b)) t.r0, t.r1, t.r2);
  from_i = rw (t.r2) (omega arith);
  from_j = rw (t.r1) (omega arith);
}

pub moves3 : Moves rule3
unfolding rule3
moves3 = record {
  stays = λ x b r0 r1. simp (not_true→false (in_r (x ∷ b)) r0, not_true→false (in_r (suc x ∷ b)) r1);
  rises = λ a b t. simp (not_true→false (in_r (a ∷ b)) t.r0, t.r1, not_true→false (in_r (suc (suc a) ∷ b)) t.r2);
  falls = λ a b t. rw (t.r1) (omega arith);
  cycles = λ a b t. inr (cycle3 a b t);
}

-- Rule 3 undoes rule 2, and rule 2 rule 3.
pub rule3_undoes_rule2 : (w : List ℕ) → change rule3 (change rule2 w) ≡ w
unfolding change
rule3_undoes_rule2 [] = refl
rule3_undoes_rule2 (x ∷ b) = ap (λ y. y ∷ b) (at (spot b x))
  where
    at : {x : ℕ} → Spot b x → rule3 (rule2 (x ∷ b) ∷ b) ≡ x
    at (out {x} r0 r1) = rw (moves2.stays x b r0 r1) (moves3.stays x b r0 r1)
    at (low₂ {a} t) = rw (moves2.rises a b t) (moves3.falls a b t)
    at (high₂ {a} t) = rw (moves2.falls a b t) (moves3.rises a b t)
    at (low₃ {a} t) = rw (cycle2 a b t).from_low (cycle3 a b t).from_j
    at (mid₃ {a} t) = rw (cycle2 a b t).from_i (cycle3 a b t).from_i
    at (high₃ {a} t) = rw (cycle2 a b t).from_j (cycle3 a b t).from_low

pub rule2_undoes_rule3 : (w : List ℕ) → change rule2 (change rule3 w) ≡ w
unfolding change
rule2_undoes_rule3 [] = refl
rule2_undoes_rule3 (x ∷ b) = ap (λ y. y ∷ b) (at (spot b x))
  where
    at : {x : ℕ} → Spot b x → rule2 (rule3 (x ∷ b) ∷ b) ≡ x
    at (out {x} r0 r1) = rw (moves3.stays x b r0 r1) (moves2.stays x b r0 r1)
    at (low₂ {a} t) = rw (moves3.rises a b t) (moves2.falls a b t)
    at (high₂ {a} t) = rw (moves3.falls a b t) (moves2.rises a b t)
    at (low₃ {a} t) = rw (cycle3 a b t).from_low (cycle2 a b t).from_j
    at (mid₃ {a} t) = rw (cycle3 a b t).from_j (cycle2 a b t).from_low
    at (high₃ {a} t) = rw (cycle3 a b t).from_i (cycle2 a b t).from_i

module _ {rule : List ℕ → ℕ} (M : Moves rule) where
  -- A changed window is in height form.
  pub height_change : (x : ℕ) (b : List ℕ) → is_height (x ∷ b) ≡ true → is_height (rule (x ∷ b) ∷ b) ≡ true
  height_change x b h = at (spot b x) h
    where
      at : {x : ℕ} → Spot b x → is_height (x ∷ b) ≡ true → is_height (rule (x ∷ b) ∷ b) ≡ true
      at (out {x} r0 r1) h = rw (M.stays x b r0 r1) h
      at (low₂ {a} t) h = rw (M.rises a b t) (R_height _ t.r1)
      at (high₂ {a} t) h = rw (M.falls a b t) (R_down a b t.r1)
      at (low₃ {a} t) h = ⊎_elim (λ c. rw c.from_low (R_height _ t.r1)) (λ c. rw c.from_low (R_height _ t.r2)) (M.cycles a b t)
      at (mid₃ {a} t) h = ⊎_elim (λ c. rw c.from_i (R_height _ t.r2)) (λ c. rw c.from_j (R_down a b t.r1)) (M.cycles a b t)
      at (high₃ {a} t) h = ⊎_elim (λ c. rw c.from_j (R_down a b t.r1)) (λ c. rw c.from_i (R_height _ t.r1)) (M.cycles a b t)
