-- The period of a window: how many rotations are different, that it divides the length, and that either start lies within it. Assumes nothing.
use mathlib.Core.Bool.{Bool, false}
use mathlib.Core.List.Memᴰ
use mathlib.Core.List.{List, [], ◌∷◌}
use mathlib.Core.Path.{◌≡◌, refl, sym, ap, ◌∙◌}
use Prim.Native.Nat.{ℕ, zero, suc, ◌+◌, ◌-◌, ◌*◌, ◌/◌, ◌%◌, ◌≤◌, ◌<◌}
use native.Mathlib.Nat.{mod-lt}
use native.Mathlib.Omega.{arith}
use lib.ListN.{length}
use Rattle.weak_orders.specs.Says.{Says}
use Rattle.weak_orders.specs.Window.{range, iter}
use Rattle.weak_orders.proofs.Iterates.{iter_add, stay, ◌⨟◌}
use Rattle.weak_orders.proofs.Lists.{of_range, says_below, count-below}
use Rattle.weak_orders.proofs.Tests.{◌∈◌, says_not, says_no, false→not_true}
use Rattle.rotations.specs.Claims.{PeriodOf, OneRing, PeriodValues}
use Rattle.rotations.specs.Order.{same}
use Rattle.rotations.specs.Rotation.{rotation, rotations, start, start_greatest, is_new, period}
use Rattle.rotations.proofs.Orders.{TotalOrder, upward, downward, says_same}
use Rattle.rotations.proofs.Returns.{least_number, remainder, Returns, divides, difference, apart}
use Rattle.rotations.proofs.Rotations.{turn, ⟳-sym, length_rotated, turned_rotation, mem_rotations, iter_turn, full_turn}
use Rattle.rotations.proofs.Rotations.{StartBy, start_first, greatest_first}

says_new : (w : List ℕ) (i : ℕ) → Says (is_new w i) ((j : ℕ) → j < i → ¬ (rotation w j ≡ rotation w i))
unfolding is_new
says_new w i = says_below (λ j. says_not (says_same (rotation w j) (rotation w i))) i

-- ---- w comes back in d turns, and in no fewer

module _ (w : List ℕ) {d : ℕ} (short : d ≤ length w) (R : Returns turn w d) where
  -- indices d apart have the same rotation
  pub repeat : (i : ℕ) → d ≤ i → i < length w → rotation w (i - d) ≡ rotation w i
  repeat i ge lt =
      let e : i - d + d ≡ i = omega arith in
      sym (iter_turn (i - d) w (omega arith))
      ∙ sym (ap (iter turn (i - d)) R.again)
      ∙ sym (iter_add turn (i - d) d w)
      ∙ ap (λ k. iter turn k w) e
      ∙ iter_turn i w (omega arith)

  pub reduced : (i : ℕ) → i < length w → rotation w (i % d) ≡ rotation w i
  reduced i lt =
      let small : i % d < d = mod-lt i R.some in
      sym (iter_turn (i % d) w (omega arith)) ∙ sym (remainder turn w d i R.again) ∙ iter_turn i w (omega arith)

  -- and those that have the same rotation are a multiple of d apart
  pub multiple_apart : (i j : ℕ) → i ≤ j → j < length w → rotation w i ≡ rotation w j → j - i ≡ (j - i) / d * d
  multiple_apart i j le lt e = divides R (j - i) (difference R (length w) (omega (arith, R.some)) (full_turn w) i j le
      (iter_turn i w (omega arith) ∙ e ∙ sym (iter_turn j w (omega arith))))

  pub distinct : (i j : ℕ) → i < d → j < d → rotation w i ≡ rotation w j → i ≡ j
  distinct i j l l' e = apart R (length w) (omega (arith, R.some)) (full_turn w) i j l l'
      (iter_turn i w (omega arith) ∙ e ∙ sym (iter_turn j w (omega arith)))

  pub whole : length w ≡ length w / d * d
  whole = divides R (length w) (full_turn w)

  -- the first index of the rotation that comes first, in any order, is below d
  pub start_within : {le : List ℕ → List ℕ → Bool} (i : ℕ) → StartBy le w i → i < d
  start_within i S =
      let small : i % d < d = mod-lt i R.some in
      let e = reduced i S.inside in
      omega (arith, S.first (i % d) (omega arith) (λ v c. rw e (S.lowest v c)))

  -- so d is the period
  period_is : period w ≡ d
  unfolding period
  period_is = count-below (is_new w) d (length w) short
      (λ i lt. (says_new w i).of (λ j l e. omega (arith, distinct j i (omega arith) lt e)))
      (λ i ge lt. says_no (says_new w i) (λ h. h (i - d) (omega (arith, R.some)) (repeat i ge lt)))

-- a full turn gives the window back, so some least number of turns does
pub returns : (w : List ℕ) → 1 ≤ length w → (period w ≤ length w) × Returns turn w (period w)
returns w pos =
    let back : ℕ → Bool = λ k. same (iter turn (suc k) w) w in
    let last : suc (length w - 1) ≡ length w = omega arith in
    let (m, le, t, low) = least_number back (length w - 1) ((says_same _ w).of (ap (λ k. iter turn k w) last ∙ full_turn w)) in
    let short : suc m ≤ length w = omega arith in
    let R : Returns turn w (suc m) = record { some = omega arith; again = (says_same _ w).to t; least = below m low } in
    rw (period_is w short R) (short, R)
  where
    below : (m : ℕ) → ((k : ℕ) → k < m → same (iter turn (suc k) w) w ≡ false) → (k : ℕ) → 1 ≤ k → k < suc m → ¬ (iter turn k w ≡ w)
    below m low zero p lt e = omega arith
    below m low (suc k) p lt e = false→not_true _ (low k (omega arith)) ((says_same _ w).of e)

pub period_of : (w : List ℕ) → 1 ≤ length w → PeriodOf w
unfolding rotations
period_of [] pos = absurd (omega arith)
period_of (x ∷ b) pos =
    let w = x ∷ b in
    let (short, R) = returns w pos in
    let (i, s, S) = start_first x b in
    let (i', s', S') = greatest_first x b in
    record {
      every = λ v m.
          let (j, k, r) = Memᴰ.of_map (rotation w) (range (length w)) m in
          (j % period w, mod-lt j R.some, reduced w short R j (of_range (length w) k) ∙ r);
      apart = distinct w short R;
      divides = (length w / period w, sym (whole w short R));
      least_within = omega (arith, start_within w short R i S);
      greatest_within = omega (arith, start_within w short R i' S');
    }

-- so none of the three is larger than what the window has room for
pub bounded : (w : List ℕ) (m : ℕ) → 1 ≤ m → length w ≤ m → (start w ≤ m) × (start_greatest w ≤ m) × (period w ≤ m)
unfolding start start_greatest period
bounded [] m pos le = (pos, pos, omega arith)
bounded (x ∷ b) m pos le =
    let P = period_of (x ∷ b) (omega arith) in
    omega (arith, P.least_within, P.greatest_within, (returns (x ∷ b) (omega arith)).0)

-- ---- one ring

-- windows with a rotation in common are rotations of each other
one_class : (x : ℕ) (b v : List ℕ) (i j : ℕ) → rotation (x ∷ b) i ≡ rotation v j → v ∈ rotations (x ∷ b)
one_class x b v i j e = (mem_rotations x b v).1 (turned_rotation (x ∷ b) i ⨟ stay e ⨟ ⟳-sym (turned_rotation v j))

-- and then the same rotation comes first, in any order
same_first : {le : List ℕ → List ℕ → Bool} → TotalOrder le → (x : ℕ) (b v : List ℕ) (s t : ℕ) →
    (i : ℕ) × (s ≡ suc i) × StartBy le (x ∷ b) i → (j : ℕ) × (t ≡ suc j) × StartBy le v j →
    v ∈ rotations (x ∷ b) → rotation (x ∷ b) (s - 1) ≡ rotation v (t - 1)
same_first order x b v s t (i, e, S) (j, f, T) m =
    let c = (mem_rotations x b v).0 m in
    let is-i : s - 1 ≡ i = omega arith in
    let is-j : t - 1 ≡ j = omega arith in
    rw (is-i, is-j) (order.antisymmetric _ _
    (S.lowest (rotation v j) (c ⨟ turned_rotation v j))
    (T.lowest (rotation (x ∷ b) i) (⟳-sym c ⨟ turned_rotation (x ∷ b) i)))

pub one_ring : (u v : List ℕ) → 1 ≤ length u → OneRing u v
one_ring [] v pos = absurd (omega arith)
one_ring (x ∷ b) [] pos =
    let none : ¬ ([] ∈ rotations (x ∷ b)) = λ m. omega (arith, length_rotated ((mem_rotations x b []).0 m)) in
    record {
      by_least = (one_class x b [] _ _, λ m. absurd (none m));
      by_greatest = (one_class x b [] _ _, λ m. absurd (none m));
    }
one_ring (x ∷ b) (y ∷ c) pos =
    record {
      by_least = (one_class x b (y ∷ c) _ _, same_first upward x b (y ∷ c) _ _ (start_first x b) (start_first y c));
      by_greatest = (one_class x b (y ∷ c) _ _, same_first downward x b (y ∷ c) _ _ (greatest_first x b) (greatest_first y c));
    }

pub period_values : PeriodValues
unfolding period start_greatest
period_values = record { of_3131 = refl; of_1111 = refl; of_131 = refl; greatest_0101 = refl }
