-- The list of windows from c steps further on has c of them moved from its front to its end. Assumes nothing.
use mathlib.Core.List.{◌++◌, map}
use mathlib.Core.Path.{◌≡◌, sym, ap, ap₂, ◌∙◌}
use Prim.Native.Nat.{ℕ, suc, ◌+◌, ◌-◌, ◌≤◌}
use native.Mathlib.Omega.{arith}
use lib.ListN.{length, take, drop, length-map}
use lib.Seq.{take_at, drop_at}
use Rattle.weak_orders.specs.Window.{range, iter}
use Rattle.weak_orders.proofs.Iterates.{iter_add}
use Rattle.weak_orders.proofs.Lists.{length-range, map_cong, map_range}
use Rattle.universal_cycle.specs.TwoStarts.{listed, moved}

module _ {A : Type 0} (f : A → A) (N c : ℕ) (u : A) (closed : iter f N u ≡ u) (le : c ≤ N) where
  abbrev after : ℕ → A
  after k = iter f (suc k) u

  later : (k : ℕ) → iter f (suc k) (iter f c u) ≡ after (c + k)
  later k = let e : suc k + c ≡ suc (c + k) = omega arith in sym (iter_add f (suc k) c u) ∙ ap (λ j. iter f j u) e

  -- past the end of the round it begins anew
  again : (i : ℕ) → iter f (suc (N - c + i)) (iter f c u) ≡ after i
  again i =
      let e : suc (N - c + i) + c ≡ suc i + N = omega arith in
      sym (iter_add f (suc (N - c + i)) c u) ∙ ap (λ j. iter f j u) e ∙ iter_add f (suc i) N u ∙ ap (iter f (suc i)) closed

  pub moved_list : listed f N (iter f c u) ≡ moved c (listed f N u)
  unfolding listed moved
  moved_list =
      let rest : N ≡ N - c + c = omega arith in
      let whole : N ≡ c + (N - c) = omega arith in
      let front = map after (range c) in
      let behind = map (λ i. after (c + i)) (range (N - c)) in
      let size : length front ≡ c = length-map (range c) after ∙ length-range c in
      let parts : map after (range N) ≡ front ++ behind = ap (λ m. map after (range m)) whole ∙ map_range after c (N - c) in
      ap (λ m. map (λ k. iter f (suc k) (iter f c u)) (range m)) rest
      ∙ map_range (λ k. iter f (suc k) (iter f c u)) (N - c) c
      ∙ ap₂ ◌++◌ (map_cong _ (λ i. after (c + i)) (range (N - c)) (λ k m. later k)) (map_cong _ after (range c) (λ i m. again i))
      ∙ sym (ap (λ l. drop c l ++ take c l) parts ∙ ap₂ ◌++◌ (drop_at front behind c size) (take_at front behind c size))
