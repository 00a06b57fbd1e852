-- What comes back to itself under a function: the least number of steps divides any other. Assumes nothing.
use mathlib.Core.Bool.{Bool, true, false}
use mathlib.Core.Logic.{◌≢◌}
use mathlib.Core.Path.{◌≡◌, sym, ap, ◌∙◌}
use Prim.Native.Nat.{ℕ, zero, suc, ◌+◌, ◌-◌, ◌*◌, ◌/◌, ◌%◌, ◌≤◌, ◌<◌}
use native.Mathlib.Nat.{div-add-mod', mod-lt, suc-mul, zero-mul, le-mul_of_pos_right}
use native.Mathlib.Omega.{arith}
use native.Mathlib.Decide.{dec_lt}
use Rattle.weak_orders.specs.Window.{iter}
use Rattle.weak_orders.proofs.Iterates.{iter_add}
use Rattle.weak_orders.proofs.Tests.{by_test}

-- the least number that passes a test
pub least_number : (q : ℕ → Bool) (n : ℕ) → q n ≡ true → (m : ℕ) × (m ≤ n) × (q m ≡ true) × ((k : ℕ) → k < m → q k ≡ false)
least_number q zero t = (0, omega arith, t, λ k lt. absurd (omega arith))
least_number q (suc n) t = by_test (q 0)
    (λ e. (0, omega arith, e, λ k lt. absurd (omega arith)))
    (λ e.
    let (m, le, t', low) = least_number (λ k. q (suc k)) n t in
    (suc m, omega arith, t', λ k lt. at k lt e low))
  where
    at : {m : ℕ} (k : ℕ) → k < suc m → q 0 ≡ false → ((k : ℕ) → k < m → q (suc k) ≡ false) → q k ≡ false
    at zero lt e low = e
    at (suc k) lt e low = low k (omega arith)

module _ {A : Type 0} (f : A → A) (w : A) where
  -- what comes back in m steps comes back in any multiple
  pub multiple : (m q : ℕ) → iter f m w ≡ w → iter f (q * m) w ≡ w
  unfolding iter
  multiple m zero e = rw zero-mul
  multiple m (suc q) e = rw suc-mul (iter_add f (q * m) m w ∙ ap (iter f (q * m)) e ∙ multiple m q e)

  pub remainder : (m k : ℕ) → iter f m w ≡ w → iter f k w ≡ iter f (k % m) w
  remainder m k e =
      let s : k ≡ k % m + k / m * m = omega (arith, div-add-mod' k m) in
      ap (λ j. iter f j w) s ∙ iter_add f (k % m) (k / m * m) w ∙ ap (iter f (k % m)) (multiple m (k / m) e)

-- w comes back in d steps, and in no fewer
pub record Returns {A : Type 0} (f : A → A) (w : A) (d : ℕ) : Type 0 where
  pub some : 1 ≤ d
  pub again : iter f d w ≡ w
  pub least : (k : ℕ) → 1 ≤ k → k < d → iter f k w ≢ w

module _ {A : Type 0} {f : A → A} {w : A} {d : ℕ} (R : Returns f w d) where
  pub divides : (k : ℕ) → iter f k w ≡ w → k ≡ k / d * d
  divides k e =
      let lt : k % d < d = mod-lt k R.some in
      elim (dec_lt 0 (k % d)) [
        | yes pos ↦ absurd (R.least (k % d) pos lt (sym (remainder f w d k R.again) ∙ e))
        | no z ↦ omega (arith, div-add-mod' k d)
      ]

  -- where it comes back in n steps too: two numbers of steps that lead to the same differ by one that leads back
  module _ (n : ℕ) (pos : 1 ≤ n) (round : iter f n w ≡ w) where
    pub difference : (i j : ℕ) → i ≤ j → iter f i w ≡ iter f j w → iter f (j - i) w ≡ w
    difference i j le e =
        let K = i * n - i in
        let full : i ≤ i * n = le-mul_of_pos_right i pos in
        let e₁ : K + i ≡ i * n = omega arith in
        let e₂ : K + j ≡ j - i + i * n = omega arith in
        sym (ap (iter f (j - i)) (multiple f w n i round))
        ∙ sym (iter_add f (j - i) (i * n) w)
        ∙ ap (λ k. iter f k w) (sym e₂)
        ∙ iter_add f K j w
        ∙ ap (iter f K) (sym e)
        ∙ sym (iter_add f K i w)
        ∙ ap (λ k. iter f k w) e₁
        ∙ multiple f w n i round

    pub apart : (i j : ℕ) → i < d → j < d → iter f i w ≡ iter f j w → i ≡ j
    apart i j l l' e =
        let up : ¬ (i < j) = λ lt. R.least (j - i) (omega arith) (omega arith) (difference i j (omega arith) e) in
        let down : ¬ (j < i) = λ lt. R.least (i - j) (omega arith) (omega arith) (difference j i (omega arith) (sym e)) in
        omega arith
