-- A tally along a tour counts the things that pass a test: the tour meets each once. Assumes nothing.
use mathlib.Core.Bool.{Bool, true}
use mathlib.Core.List.Memᴰ
use mathlib.Core.Path.{◌≡◌, refl, sym, ap, ◌∙◌}
use Prim.Native.Nat.{ℕ, zero, suc, ◌<◌}
use native.Mathlib.Omega.{arith}
use lib.Dec.{ltb}
use borrow.Author.Tests.{lt-ltb, le-ltb, ltb-true}
use Rattle.weak_orders.specs.Window.{count, range, iter}
use Rattle.weak_orders.proofs.Lists.{in_range, of_range}
use Rattle.ranking.specs.Numbering.{Exactly}
use Rattle.ranking.proofs.Numberings.{exactly_as}
use Rattle.ranking.proofs.Selected.{sorted_selected}
use Rattle.ranking.proofs.Sorted.{Sorted, none, one, sorted_append}
use Rattle.universal_cycle.specs.Round.{Tour}
use Rattle.universal_cycle.proofs.TwoStarts.{apart, meets}
use Rattle.rotating_steps.proofs.Counting.{Into, as_many}

sorted_range : (n : ℕ) → Sorted ltb (range n)
unfolding range
sorted_range zero = none
sorted_range (suc n) = sorted_append (sorted_range n) (one (λ y m. absurd (Memᴰ.not-nil m)) none) (λ x y i j.
    lt-ltb x y (omega (arith, of_range n i, Memᴰ.eq_of_singleton j)))

-- The numbers below n that pass a test.
numbers_selected : (g : ℕ → Bool) (n : ℕ) → Exactly (count g (range n)) (λ k. (k < n) × (g k ≡ true))
numbers_selected g n = exactly_as
    (sorted_selected ltb (λ k. le-ltb k k (omega arith)) (λ i j h. le-ltb j i (omega (arith, ltb-true i j h))) 0 g (range n) (sorted_range n))
    (λ k. (λ (m, e). (of_range n m, e), λ (l, e). (in_range n k l, e)))

module _ {A : Type 0} {P : A → Type 0} {f : A → A} {N : ℕ} {s : A} (t : Tour P f N s) where
  pub counted_by_tour : (q : A → Bool) {M : ℕ} → Exactly M (λ w. P w × (q w ≡ true)) → count (λ k. q (iter f k s)) (range N) ≡ M
  counted_by_tour q K = as_many (numbers_selected (λ k. q (iter f k s)) N) K met found
    where
      met : Into (λ k. (k < N) × (q (iter f k s) ≡ true)) (λ w. P w × (q w ≡ true)) (λ k w. iter f k s ≡ w)
      met = record {
        has = λ k (l, e). (iter f k s, (t.kept k, e), refl);
        own = λ k k' w p p' e e'. apart t k k' p.0 p'.0 (e ∙ sym e');
      }

      found : Into (λ w. P w × (q w ≡ true)) (λ k. (k < N) × (q (iter f k s) ≡ true)) (λ w k. iter f k s ≡ w)
      found = record {
        has = λ w (p, h). let (k, l, e) = meets t w p in (k, (l, ap q e ∙ h), e);
        own = λ w w' k p p' e e'. sym e ∙ e';
      }
