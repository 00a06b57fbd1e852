-- Steps that lead from each of N numbered things to each other go through them all in one cycle. Assumes nothing.
use Prim.Native.Nat.{ℕ, suc, ◌+◌, ◌-◌, ◌≤◌, ◌<◌}
use native.Mathlib.Omega.{arith}
use native.Mathlib.Nat.{lt_irrefl}
use native.Mathlib.Decide.{dec_lt, ℕ_discrete}
use mathlib.Core.HLevel.{dec→stable}
use mathlib.Core.Logic.{◌≢◌}
use mathlib.Core.Path.{◌≡◌, refl, sym, ap, ◌∙◌}
use Rattle.weak_orders.specs.Window.{iter}
use Rattle.weak_orders.proofs.Iterates.{◌⇝⟨◌⟩◌, by, iter_first, iter_add, along}
use Rattle.ranking.specs.Numbering.{Numbering}
use Rattle.universal_cycle.specs.Round.{Tour}
use Rattle.universal_cycle.proofs.Pigeonhole.{pigeonhole}

-- What comes back in `m` steps comes in fewer to all that it comes to.
within : {A : Type 0} {f : A → A} {s v : A} (m : ℕ) → 0 < m → iter f m s ≡ s → s ⇝⟨ f ⟩ v → (k : ℕ) × (k < m) × (iter f k s ≡ v)
unfolding iter
within {f = f} {s = s} m pos e c = along (λ w. (k : ℕ) × (k < m) × (iter f k s ≡ w)) (λ w (k, lt, h).
    elim (dec_lt (suc k) m) [
      | yes l ↦ (suc k, l, ap f h)
      | no l ↦ (0, pos, let e' : m ≡ suc k = omega arith in cc)
    ]) c (0, pos, refl)

module _ {A : Type 0} {P : A → Type 0} {f : A → A} {N : ℕ} {place : A → ℕ} {item : ℕ → A} (L : Numbering P N place item)
    (f-in : (w : A) → P w → P (f w)) (connected : (u v : A) → P u → P v → u ⇝⟨ f ⟩ v) where
  -- Nothing comes back in fewer than `N` steps: it comes to `N` things before.
  long : (s : A) → P s → (m : ℕ) → 0 < m → iter f m s ≡ s → N ≤ m
  long s p m pos e = pigeonhole N m (λ i l. (at i l).0) (λ i l. (at i l).1) (λ i j l l' lt h. omega (arith, same i j l l' h))
    where
      at : (i : ℕ) → i < N → (k : ℕ) × (k < m) × (iter f k s ≡ item i)
      at i l = within m pos e (connected s _ p (L.item_in i l))

      same : (i j : ℕ) (l : i < N) (l' : j < N) → (at i l).0 ≡ (at j l').0 → i ≡ j
      same i j l l' h = cc ((at i l).2, (at j l').2, L.place_item i l, L.place_item j l')

  module _ (s : A) (p : P s) where
    there : (k : ℕ) → P (iter f k s)
    there k = along P f-in (by k refl) p

    -- So steps that come to the same thing are `N` apart.
    apart : (i j : ℕ) → i < j → iter f i s ≡ iter f j s → i + N ≤ j
    apart i j lt e =
        let e' : j - i + i ≡ j = omega arith in
        omega (arith, long (iter f i s) (there i) (j - i) (omega arith) (cc (iter_add f (j - i) i s)))

    same_place : (i j : ℕ) → place (iter f i s) ≡ place (iter f j s) → iter f i s ≡ iter f j s
    same_place i j e = cc (L.item_place _ (there i), L.item_place _ (there j))

    -- `N` steps do come back: else `N + 1` things would have places below `N`.
    crowded : ¬ (place (iter f N s) ≢ place s)
    unfolding iter
    crowded ne = lt_irrefl N (pigeonhole (suc N) N (λ i l. place (iter f i s)) (λ i l. L.place-below _ (there i)) (λ i j l l' lt e.
        let far = apart i j lt (same_place i j e) in
        let (e₁, e₂) : (i ≡ 0) × (j ≡ N) = omega arith in
        ne (cc)))

    closes : iter f N s ≡ s
    unfolding iter
    closes = same_place N 0 (dec→stable (ℕ_discrete _ _) crowded)

    only : (i j : ℕ) → 1 ≤ i → i ≤ N → 1 ≤ j → j ≤ N → iter f i s ≡ iter f j s → i ≡ j
    only i j l l' h h' e =
        let after : ¬ (i < j) = λ lt. omega (arith, apart i j lt e) in
        let before : ¬ (j < i) = λ lt. omega (arith, apart j i lt (sym e)) in
        omega arith

  -- One cycle goes through all of `P`, wherever it starts.
  pub tour : (s : A) → P s → Tour P f N s
  unfolding iter
  tour s p = record {
    closed = closes s p;
    kept = there s p;
    once = λ w q.
        let (k, lt, e) = within N (omega (arith, L.place-below s p)) (closes (f s) (f-in s p)) (connected (f s) w (f-in s p) q) in
        let met = sym (iter_first f k s) ∙ e in
        record { when = suc k; first = omega arith; last = lt; met = met; only = λ j l l' e'. only s p j (suc k) l l' (omega arith) lt (e' ∙ sym met) };
  }
