-- The test over a whole table, carried to each entry. Assumes nothing.
use mathlib.Core.Bool.{true}
use mathlib.Core.List.{List}
use mathlib.Core.Logic.{◌≢◌}
use mathlib.Core.Path.{◌≡◌, sym, ap, ap₂, ◌∙◌}
use Prim.Native.Nat.{ℕ, zero, suc, ◌+◌, ◌*◌, ◌/◌, ◌%◌, ◌≤◌, ◌<◌}
use native.Mathlib.Omega.{arith}
use native.Mathlib.Decide.{ℕ_discrete}
use lib.Dec.{eqb}
use lib.ListN.{length, get_or, set}
use lib.Seq.{get_or-set_same, get_or-set_other}
use borrow.Author.Tests.{eqb-true}
use Rattle.weak_orders.proofs.Lists.{all_in, in_range}
use Rattle.ranking.specs.Counts.{L}
use Rattle.ranking.specs.Tables.{tabled, Entries, recurrence, is_count_table}

pub tabled_at : (m : ℕ) (f : ℕ → ℕ) (t : List ℕ) → tabled m f t ≡ true → Entries t f m
unfolding tabled
tabled_at m f t h i l = eqb-true (get_or t i 0) (f i) (all_in (λ i. eqb (get_or t i 0) (f i)) h (in_range m i l))

-- a store, and what holds of the other entries
pub entries_set : (t : List ℕ) (f : ℕ → ℕ) (k x : ℕ) → k < length t → x ≡ f k →
    (i : ℕ) → (i ≢ k → get_or t i 0 ≡ f i) → get_or (set t k x) i 0 ≡ f i
entries_set t f k x h e i others = elim (ℕ_discrete i k) [
  | yes same ↦ ap (λ i. get_or (set t k x) i 0) same ∙ get_or-set_same t k x 0 h ∙ e ∙ ap f (sym same)
  | no ne ↦ get_or-set_other t k i x 0 ne ∙ others ne
]

module _ (t : List ℕ) (h : is_count_table t ≡ true) where
  by_recurrence : (n k : ℕ) → n ≤ 16 → k ≤ 16 → get_or t (n * 17 + k) 0 ≡ recurrence t n k
  unfolding is_count_table
  by_recurrence n k p q =
      let i = n * 17 + k in
      let (e, f) : (i / 17 ≡ n) × (i % 17 ≡ k) = (omega arith, omega arith) in
      tabled_at 289 (λ i. recurrence t (i / 17) (i % 17)) t h i (omega arith) ∙ ap₂ (recurrence t) e f

  pub entry-L : (n k : ℕ) → n ≤ 16 → k ≤ 16 → get_or t (n * 17 + k) 0 ≡ L n k
  unfolding L recurrence
  entry-L zero zero p q = by_recurrence zero zero p q
  entry-L zero (suc k) p q = by_recurrence zero (suc k) p q
  entry-L (suc n) zero p q = by_recurrence (suc n) zero p q
  entry-L (suc n) (suc k) p q = by_recurrence (suc n) (suc k) p q
      ∙ ap₂ (λ x y. suc k * (x + y)) (entry-L n (suc k) (omega arith) q) (entry-L n k (omega arith) (omega arith))

-- n is none of the numbers below k, as the last arm of a match knows it
abbrev pub Passed : ℕ → ℕ → Type 0
Passed n zero = Unit
Passed n (suc k) = Passed n k × (n ≡ k → ⊥)

pub past : (n k : ℕ) → Passed n k → k ≤ n
past n zero h = omega arith
past n (suc k) (h, ne) = omega (arith, past n k h)
