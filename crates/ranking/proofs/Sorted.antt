-- A strictly sorted list: the place of an element is how many stand before it. Assumes nothing.
use mathlib.Core.Bool.{Bool, true, false}
use mathlib.Core.Logic.{⊎_elim}
use mathlib.Core.Path.{◌≡◌, refl, sym, ap, ◌∙◌}
use mathlib.Core.List.Memᴰ
use mathlib.Core.List.Memᴰ.{head as here}
use mathlib.Core.List.Memᴰ.{tail as there}
use mathlib.Core.List.{List, [], ◌∷◌, ◌++◌, map}
use Prim.Native.Nat.{ℕ, zero, suc, ◌<◌}
use native.Mathlib.Omega.{arith}
use lib.ListN.{length, get_or}
use Rattle.weak_orders.specs.Window.{count}
use Rattle.weak_orders.proofs.Lists.{get_or_in, in_get_or, count_cons, count_none}
use Rattle.weak_orders.proofs.Tests.{◌∈◌, by_test, bit}
use Rattle.ranking.specs.Dictionary.{select}
use Rattle.ranking.specs.Numbering.{Numbering}
use Rattle.ranking.proofs.Listing.{of_select}

-- each element stands before all after it
pub data Sorted {A : Type 0} (lt : A → A → Bool) : List A → Type 0 where
  none : Sorted lt []
  one : {x : A} {xs : List A} → ((y : A) → y ∈ xs → lt x y ≡ true) → Sorted lt xs → Sorted lt (x ∷ xs)

module _ {A : Type 0} {lt : A → A → Bool} where
  pub sorted_append : {xs ys : List A} → Sorted lt xs → Sorted lt ys →
      ((x y : A) → x ∈ xs → y ∈ ys → lt x y ≡ true) → Sorted lt (xs ++ ys)
  sorted_append none t h = t
  sorted_append (one {x = x} {xs = xs} f s) t h = one
      (λ y m. ⊎_elim (f y) (h x y (here refl)) (Memᴰ.append_cases xs m))
      (sorted_append s t (λ x y m. h x y (there m)))

  pub sorted_select : (p : A → Bool) {xs : List A} → Sorted lt xs → Sorted lt (select p xs)
  unfolding select
  sorted_select p none = none
  sorted_select p (one {x = x} {xs = xs} f s) = by_test (p x)
      (λ e. rw e (one (λ y m. f y (of_select p xs m).0) (sorted_select p s)))
      (λ e. rw e (sorted_select p s))

  -- an element stands before each one with a greater index
  pub sorted_at : (d : A) {xs : List A} → Sorted lt xs → (i j : ℕ) → i < j → j < length xs → lt (get_or xs i d) (get_or xs j d) ≡ true
  sorted_at d none i j l h = absurd (omega arith)
  sorted_at d (one f s) i zero l h = absurd (omega arith)
  sorted_at d (one {xs = xs} f s) zero (suc j) l h = f (get_or xs j d) (get_or_in xs j d (omega arith))
  sorted_at d (one f s) (suc i) (suc j) l h = sorted_at d s i j (omega arith) (omega arith)

  pub sorted_map : {B : Type 0} {lt' : B → B → Bool} (f : A → B) → ((x y : A) → lt x y ≡ true → lt' (f x) (f y) ≡ true) →
      {xs : List A} → Sorted lt xs → Sorted lt' (map f xs)
  sorted_map f h none = none
  sorted_map {lt' = lt'} f h (one {x = x} {xs = xs} g s) = one
      (λ y m. let (z, i, e) = Memᴰ.of_map f xs m in ap (lt' (f x)) (sym e) ∙ h x z (g z i))
      (sorted_map f h s)

module _ {A : Type 0} (lt : A → A → Bool)
    (irreflexive : (x : A) → lt x x ≡ false) (asymmetric : (x y : A) → lt x y ≡ true → lt y x ≡ false) (d : A) where
  -- as many stand before the element at i as i says
  pub count_at : {xs : List A} → Sorted lt xs → (i : ℕ) → i < length xs → count (λ u. lt u (get_or xs i d)) xs ≡ i
  count_at none i h = absurd (omega arith)
  count_at (one {x = x} {xs = xs} f s) zero h =
      let e : bit (lt x x) ≡ 0 = rw (irreflexive x) in
      omega (arith, count_cons (λ u. lt u x) x xs, count_none (λ u. lt u x) xs (λ y m. asymmetric x y (f y m)))
  count_at (one {x = x} {xs = xs} f s) (suc i) h =
      let z = get_or xs i d in
      let e : bit (lt x z) ≡ 1 = rw (f z (get_or_in xs i d (omega arith))) in
      omega (arith, count_cons (λ u. lt u z) x xs, count_at s i (omega arith))

  pub sorted_numbering : (xs : List A) → Sorted lt xs → Numbering (λ x. x ∈ xs) (length xs) (λ x. count (λ u. lt u x) xs) (λ i. get_or xs i d)
  sorted_numbering xs s = let place : A → ℕ = λ x. count (λ u. lt u x) xs in record {
    place-below = λ x m. let (i, l, e) = in_get_or d m in omega (arith, count_at s i l, ap place e);
    item_place = λ x m. let (i, l, e) = in_get_or d m in cc (count_at s i l, ap place e);
    item_in = λ i l. get_or_in xs i d l;
    place_item = λ i l. count_at s i l;
  }
