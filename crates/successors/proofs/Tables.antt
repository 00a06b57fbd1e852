-- What a table of counts says of the window that it counts. Assumes nothing.
use mathlib.Core.Bool.{Bool, not, ◌&&◌}
use mathlib.Core.List.{List, [], ◌∷◌}
use mathlib.Core.Logic.{◌≢◌}
use mathlib.Core.Path.{◌≡◌, refl, sym, ◌∙◌}
use Prim.Native.Nat.{ℕ, zero, suc, ◌-◌, ◌≤◌, ◌<◌}
use native.Mathlib.Omega.{arith}
use native.Mathlib.Decide.{ℕ_discrete}
use lib.Dec.{eqb}
use lib.ListN.{get_or}
use borrow.Author.Tests.{eq-eqb, ne_eqb}
use Rattle.weak_orders.specs.Tables.{tally}
use Rattle.weak_orders.specs.Window.{all, num}
use Rattle.weak_orders.proofs.Symbols.{num_mem}
use Rattle.weak_orders.proofs.Tallies.{tally-num}
use Rattle.weak_orders.proofs.Tests.{◌∈◌, here, there}
use Rattle.successors.specs.ByTable.{single_by, passes_by, largest_by}
use Rattle.successors.specs.Rules.{single, largest_below}
use Rattle.successors.proofs.Singles.{largest_above, largest_in}

module _ (t l : List ℕ) (h : t ≡ tally l) where
  pub table-num : (v : ℕ) → v ≤ 16 → get_or t v 0 ≡ num l v
  table-num v le = rw h (tally-num l v le)

  -- ---- the symbols that are 1 or occur once
  single_by-single : (v : ℕ) → v ≤ 16 → single_by t v ≡ single l v
  unfolding single_by single
  single_by-single v le = rw (table-num v le)

  -- and differ from p
  pub passes_by-single : (p v : ℕ) → v ≤ 16 → passes_by t p v ≡ (not (eqb v p) && single l v)
  unfolding passes_by
  passes_by-single p v le = rw (single_by-single v le)

-- tests that agree on the elements of a list
pub all_cong : {A : Type 0} (p q : A → Bool) (l : List A) → ((x : A) → x ∈ l → p x ≡ q x) → all p l ≡ all q l
unfolding all
all_cong p q [] h = refl
all_cong p q (x ∷ l) h = rw (h x here, all_cong p q l (λ y m. h y (there m)))

-- ---- the largest number below p is p - 1, or the largest below that

pub largest_by_here : (t : List ℕ) (p : ℕ) → 0 < p → get_or t (p - 1) 0 ≢ 0 → largest_by t p ≡ p - 1
unfolding largest_by
largest_by_here t zero lt h = absurd (omega arith)
largest_by_here t (suc v) lt h = let e : suc v - 1 ≡ v = omega arith in rw (e, ne_eqb (get_or t v 0) 0 (rw e at h))

pub largest_by-lower : (t : List ℕ) (p : ℕ) → 0 < p → get_or t (p - 1) 0 ≡ 0 → largest_by t p ≡ largest_by t (p - 1)
unfolding largest_by
largest_by-lower t zero lt h = absurd (omega arith)
largest_by-lower t (suc v) lt h = let e : suc v - 1 ≡ v = omega arith in rw (e, eq-eqb (get_or t v 0) 0 (rw e at h))

pub largest_by_zero : (t : List ℕ) → largest_by t 0 ≡ 0
unfolding largest_by
largest_by_zero t = refl

module _ (l : List ℕ) (v : ℕ) where
  -- a symbol is the largest below its successor
  largest_here : v ∈ l → largest_below l (suc v) ≡ v
  largest_here m =
      let top : ¬ (v < largest_below l (suc v)) = λ lt. omega (arith, (largest_in l (suc v) (omega arith)).1) in
      omega (arith, largest_above l (suc v) v m (omega arith))

  -- another number makes no difference
  largest_lower : ¬ (v ∈ l) → largest_below l (suc v) ≡ largest_below l v
  largest_lower none =
      let a = largest_below l (suc v) in
      let b = largest_below l v in
      let down : ¬ (b < a) = λ lt.
      let (m, less) = largest_in l (suc v) (omega arith) in
      let ne : a ≢ v = λ e. none (rw e at m) in
      omega (arith, largest_above l v a m (omega (arith, ne))) in
      let up : ¬ (a < b) = λ lt.
      let (m, less) = largest_in l v (omega arith) in
      omega (arith, largest_above l (suc v) b m (omega arith)) in
      omega arith

-- it is no larger than v
pub largest_le : (l : List ℕ) (v : ℕ) → largest_below l v ≤ v
largest_le l v =
    let top : ¬ (v < largest_below l v) = λ lt. omega (arith, (largest_in l v (omega arith)).1) in
    omega arith

pub largest_by_largest : (t l : List ℕ) → t ≡ tally l → (v : ℕ) → v ≤ 17 → largest_by t v ≡ largest_below l v
unfolding largest_by
largest_by_largest t l h zero le = omega (arith, largest_le l 0)
largest_by_largest t l h (suc v) le = elim (ℕ_discrete (num l v) 0) [
  | yes e ↦ rw (eq-eqb (get_or t v 0) 0 (table-num t l h v (omega arith) ∙ e))
      (largest_by_largest t l h v (omega arith) ∙ sym (largest_lower l v (λ m. omega (arith, (num_mem l v).1 m))))
  | no ne ↦ rw (ne_eqb (get_or t v 0) 0 (λ e. ne (sym (table-num t l h v (omega arith)) ∙ e)))
      (sym (largest_here l v ((num_mem l v).0 (omega (arith, ne)))))
]
