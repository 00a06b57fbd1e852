-- A function applied over and over, and what it leads to. Assumes nothing.
use Prim.Native.Nat.{ℕ, zero, suc, ◌+◌}
use native.Mathlib.Nat.{zero-add, suc-add}
use mathlib.Core.Path.{◌≡◌, refl, sym, ap, subst, ◌∙◌}
use Rattle.weak_orders.specs.Window.{iter}

infix 4 ◌⇝⟨◌⟩◌
-- `u` comes to `v` by steps of `f`.
pub data ◌⇝⟨◌⟩◌ {A : Type 0} (u : A) (f : A → A) (v : A) : Type 0 where
  by : (k : ℕ) → iter f k u ≡ v → u ⇝⟨ f ⟩ v

module _ {A : Type 0} (f : A → A) where
  -- The first step told apart instead of the last.
  pub iter_first : (k : ℕ) (x : A) → iter f k (f x) ≡ f (iter f k x)
  unfolding iter
  iter_first zero x = refl
  iter_first (suc k) x = ap f (iter_first k x)

  pub iter_add : (i j : ℕ) (x : A) → iter f (i + j) x ≡ iter f i (iter f j x)
  unfolding iter
  iter_add zero j x = rw zero-add
  iter_add (suc i) j x = rw suc-add (ap f (iter_add i j x))

module _ {A : Type 0} {f : A → A} where
  infixr 3 ◌⨟◌
  -- Induction: what each step keeps is kept along the way.
  pub along : {u v : A} (Q : A → Type 0) → ((w : A) → Q w → Q (f w)) → u ⇝⟨ f ⟩ v → Q u → Q v
  unfolding iter
  along {u} Q next (by k e) q = subst Q e (go k)
    where
      go : (k : ℕ) → Q (iter f k u)
      go zero = q
      go (suc k) = next (iter f k u) (go k)

  pub stay : {u v : A} → u ≡ v → u ⇝⟨ f ⟩ v
  unfolding iter
  stay e = by 0 e

  -- A step more.
  pub on : {u v : A} → u ⇝⟨ f ⟩ v → u ⇝⟨ f ⟩ f v
  unfolding iter
  on (by k e) = by (suc k) (ap f e)

  -- One way after another.
  pub ◌⨟◌ : {u v w : A} → u ⇝⟨ f ⟩ v → v ⇝⟨ f ⟩ w → u ⇝⟨ f ⟩ w
  ◌⨟◌ {u} c d = along (λ w. u ⇝⟨ f ⟩ w) (λ w. on) d c

  -- A step in front.
  pub first_step : {u v : A} → f u ⇝⟨ f ⟩ v → u ⇝⟨ f ⟩ v
  first_step c = on (stay refl) ⨟ c

  -- A step less in front.
  pub rest : (u : A) {v : A} (k : ℕ) → iter f (suc k) u ≡ v → f u ⇝⟨ f ⟩ v
  unfolding iter
  rest u k e = by k (iter_first f k u ∙ e)

  -- Both ends a step on.
  pub push : {u v : A} → u ⇝⟨ f ⟩ v → f u ⇝⟨ f ⟩ f v
  push (by k e) = by k (iter_first f k _ ∙ ap f e)

  -- What comes back to itself comes back by a last step.
  pub last_step : {u : A} → f u ⇝⟨ f ⟩ u → (w : A) × (u ⇝⟨ f ⟩ w) × (f w ≡ u)
  last_step {u} (by k e) = (iter f k u, by k refl, sym (iter_first f k u) ∙ e)

  -- What comes back to itself is come to from all that it comes to.
  pub back : {u v : A} → f u ⇝⟨ f ⟩ u → u ⇝⟨ f ⟩ v → v ⇝⟨ f ⟩ u
  unfolding iter
  back {u} round c = along (λ w. w ⇝⟨ f ⟩ u) next c (stay refl)
    where
      next : (w : A) → w ⇝⟨ f ⟩ u → f w ⇝⟨ f ⟩ u
      next w (by zero e) = stay (ap f e) ⨟ round
      next w (by (suc k) e) = rest w k e
