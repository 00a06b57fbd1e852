-- Counting by matching: where each thing of one kind has one of another, and no two the same one, there are no more of the first.
-- Assumes nothing.
use mathlib.Core.Bool.{Bool, not, ◌&&◌}
use mathlib.Core.List.{List, [], ◌∷◌}
use mathlib.Core.Path.{◌≡◌, refl, sym, ap, ◌∙◌}
use Prim.Native.Nat.{ℕ, ◌+◌, ◌≤◌, ◌<◌}
use native.Mathlib.Omega.{arith}
use lib.ListN.{length}
use Rattle.weak_orders.specs.Window.{count}
use Rattle.weak_orders.proofs.Lists.{count_nil, count_cons}
use Rattle.weak_orders.proofs.Tests.{by_test, bit}
use Rattle.ranking.specs.Numbering.{Exactly}
use Rattle.universal_cycle.proofs.Pigeonhole.{pigeonhole}

-- Each thing that P holds of has, by R, a thing that Q holds of, and none shares it with another.
pub record Into {A B : Type 0} (P : A → Type 0) (Q : B → Type 0) (R : A → B → Type 0) : Type 0 where
  pub has : (x : A) → P x → (y : B) × Q y × R x y
  pub own : (x x' : A) (y : B) → P x → P x' → R x y → R x' y → x ≡ x'

at_most : {A B : Type 0} {P : A → Type 0} {Q : B → Type 0} {R : A → B → Type 0} {N M : ℕ} → Exactly N P → Exactly M Q → Into P Q R → N ≤ M
at_most {A} {B} {P} {Q} {R} {N} {M} (place, item, H) (place', item', K) I = pigeonhole N M
    (λ i l. place' (at i l).0)
    (λ i l. K.place-below _ (at i l).1)
    (λ i j l l' lt e. omega (arith, same i j l l' e))
  where
    at : (i : ℕ) → i < N → (y : B) × Q y × R (item i) y
    at i l = I.has (item i) (H.item_in i l)

    same : (i j : ℕ) (l : i < N) (l' : j < N) → place' (at i l).0 ≡ place' (at j l').0 → i ≡ j
    same i j l l' e =
        let meet : (at i l).0 ≡ (at j l').0 = sym (K.item_place _ (at i l).1) ∙ ap item' e ∙ K.item_place _ (at j l').1 in
        let eq = I.own (item i) (item j) (at j l').0 (H.item_in i l) (H.item_in j l') (rw meet at (at i l).2) (at j l').2 in
        sym (H.place_item i l) ∙ ap place eq ∙ H.place_item j l'

-- So where it goes both ways, there are as many of either.
pub as_many : {A B : Type 0} {P : A → Type 0} {Q : B → Type 0} {R : A → B → Type 0} {N M : ℕ} → Exactly N P → Exactly M Q →
    Into P Q R → Into Q P (λ y x. R x y) → N ≡ M
as_many E F I K = omega (arith, at_most E F I, at_most F E K)

-- P holds of but one number of things.
pub same_number : {A : Type 0} {P : A → Type 0} {N M : ℕ} → Exactly N P → Exactly M P → N ≡ M
same_number {A} {P} E F = omega (arith, at_most E F itself, at_most F E itself)
  where
    itself : Into P P (λ x y. x ≡ y)
    itself = record { has = λ x p. (x, p, refl); own = λ x x' y p p' e e'. e ∙ sym e' }

-- Just one thing is x.
pub exactly_one : {A : Type 0} (x : A) → Exactly 1 (λ y. y ≡ x)
exactly_one x = (
  λ y. 0,
  λ i. x,
  record {
    place-below = λ y e. omega arith;
    item_place = λ y e. sym e;
    item_in = λ i l. refl;
    place_item = λ i l. omega arith;
  },
)

-- What passes a test also passes another, or does not.
pub count_split : {A : Type 0} (p q : A → Bool) (xs : List A) → count p xs ≡ count (λ x. p x && q x) xs + count (λ x. p x && not (q x)) xs
count_split p q [] = omega (arith, count_nil p, count_nil (λ x. p x && q x), count_nil (λ x. p x && not (q x)))
count_split p q (x ∷ xs) =
    let one : bit (p x) ≡ bit (p x && q x) + bit (p x && not (q x)) =
    by_test (p x) (λ e. rw e (by_test (q x) (λ f. rw f) (λ f. rw f))) (λ e. rw e) in
    omega (arith, count_cons p x xs, count_cons (λ x. p x && q x) x xs, count_cons (λ x. p x && not (q x)) x xs, count_split p q xs)

pub count-not : {A : Type 0} (p : A → Bool) (xs : List A) → count p xs + count (λ x. not (p x)) xs ≡ length xs
count-not p [] = omega (arith, count_nil p, count_nil (λ x. not (p x)))
count-not p (x ∷ xs) =
    let one : bit (p x) + bit (not (p x)) ≡ 1 = by_test (p x) (λ e. rw e) (λ e. rw e) in
    omega (arith, count_cons p x xs, count_cons (λ x. not (p x)) x xs, count-not p xs)
