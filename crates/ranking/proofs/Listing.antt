-- Laws of the lists that the dictionary is made by: `select` and `flat_map`. Assumes nothing.
use mathlib.Core.Bool.{Bool, true, ◌&&◌}
use mathlib.Core.Logic.{⊎_elim}
use mathlib.Core.Path.{◌≡◌, refl, ap, ◌∙◌}
use mathlib.Core.List.Memᴰ.{head as here}
use mathlib.Core.List.Memᴰ.{tail as there}
use mathlib.Core.List.{List, [], ◌∷◌, ◌++◌, flat_map, append_assoc, append-nil}
use mathlib.Core.List.Memᴰ
use Prim.Native.Nat.{ℕ, suc}
use native.Mathlib.Omega.{arith}
use lib.ListN.{length}
use Rattle.weak_orders.specs.Window.{count, range}
use Rattle.weak_orders.proofs.Lists.{count_nil, count_cons}
use Rattle.weak_orders.proofs.Tests.{◌∈◌, by_test}
use Rattle.ranking.specs.Dictionary.{select}

module _ {A : Type 0} (p : A → Bool) where
  pub in_select : {x : A} {xs : List A} → x ∈ xs → p x ≡ true → x ∈ select p xs
  unfolding select
  in_select (here {x = y} e) t = let t : p y ≡ true = cc in rw t (here e)
  in_select (there {x = y} m) t = by_test (p y) (λ e. rw e (there (in_select m t))) (λ e. rw e (in_select m t))

  pub of_select : (xs : List A) {x : A} → x ∈ select p xs → (x ∈ xs) × (p x ≡ true)
  unfolding select
  of_select [] m = absurd (Memᴰ.not-nil m)
  of_select (y ∷ xs) {x} m = by_test (p y)
      (λ e. ⊎_elim
      (λ h. (here h, ap p h ∙ e))
      (λ m. let (i, t) = of_select xs m in (there i, t))
      (Memᴰ.cases_cons (rw e at m)))
      (λ e. let (i, t) = of_select xs (rw e at m) in (there i, t))

  pub length-select : (xs : List A) → length (select p xs) ≡ count p xs
  unfolding select count
  length-select [] = refl
  length-select (x ∷ xs) = by_test (p x) (λ e. rw e (ap suc (length-select xs))) (λ e. rw e (length-select xs))

  pub count-select : (q : A → Bool) (xs : List A) → count q (select p xs) ≡ count (λ x. p x && q x) xs
  unfolding select
  count-select q [] = omega (arith, count_nil q, count_nil (λ x. p x && q x))
  count-select q (x ∷ xs) =
      let r = count_cons (λ x. p x && q x) x xs in
      by_test (p x)
      (λ e. rw e (omega (arith, count_cons q x (select p xs), rw e at r, count-select q xs)))
      (λ e. rw e (omega (arith, rw e at r, count-select q xs)))

pub flat_map_append : {A B : Type 0} (f : A → List B) (xs ys : List A) → flat_map f (xs ++ ys) ≡ flat_map f xs ++ flat_map f ys
unfolding flat_map
flat_map_append f [] ys = refl
flat_map_append f (x ∷ xs) ys = rw (flat_map_append f xs ys, append_assoc)

pub in_flat_map : {A B : Type 0} (f : A → List B) {x : A} {xs : List A} {y : B} → x ∈ xs → y ∈ f x → y ∈ flat_map f xs
unfolding flat_map
in_flat_map f (here {xs = xs} e) m = Memᴰ.append_left (flat_map f xs) (rw e at m)
in_flat_map f (there {x = x} i) m = Memᴰ.append_right (f x) (in_flat_map f i m)

pub of_flat_map : {A B : Type 0} (f : A → List B) (xs : List A) {y : B} → y ∈ flat_map f xs → (x : A) × (x ∈ xs) × (y ∈ f x)
unfolding flat_map
of_flat_map f [] m = absurd (Memᴰ.not-nil m)
of_flat_map f (x ∷ xs) m = ⊎_elim
    (λ m. (x, here refl, m))
    (λ m. let (z, i, m) = of_flat_map f xs m in (z, there i, m))
    (Memᴰ.append_cases (f x) m)

-- what f gives below n and then at n
pub flat_map-range : {B : Type 0} (f : ℕ → List B) (n : ℕ) → flat_map f (range (suc n)) ≡ flat_map f (range n) ++ f n
unfolding range flat_map
flat_map-range f n = rw (flat_map_append f (range n) (n ∷ []), append-nil)
