-- The library's words for what a chain of iterators gives, beside the words of these specifications. Assumes nothing.
use mathlib.Core.Bool.{Bool, true, false, cond, ◌&&◌, ◌||◌}
use mathlib.Core.List.{List, [], ◌∷◌}
use mathlib.Core.Path.{◌≡◌, refl, sym, ap, ap₂, ◌∙◌}
use Prim.Native.Nat.{ℕ, zero, suc, ◌+◌}
use native.Mathlib.Omega.{arith}
use native.Mathlib.Numerals.{add-one}
use native.Mathlib.Decide.{dec_lt}
use lib.Seq.{take_all}
use Rattle.std.proofs.lemmas.List.Sums.{sum_by_more}
use Rattle.std.proofs.lemmas.List.{get_or_past}
use lib.Dec.{ltb, eqb}
use lib.ListN.{length, take, get_or}
use borrow.Author.Tests.{lt-ltb}
use Rattle.std.specs.Prelude.{sum, sum_by, count_by}
use Rattle.std.proofs.lemmas.List.Recursion.{is_count_by, is_sum_by, is_position_or_len}
use Rattle.weak_orders.proofs.Lists.{total}
use Rattle.std.specs.List.{list_all, list_any, position_or_len}
use Rattle.weak_orders.specs.Tables.{upto}
use Rattle.weak_orders.specs.Window.{all, count, first_index, num, occurs, below}

-- `.all(..)`; the tests need only agree on each element
pub list_all-by : {A : Type 0} (p q : A → Bool) → ((x : A) → p x ≡ q x) → (xs : List A) → list_all p xs ≡ all q xs
unfolding all
list_all-by p q h [] = refl
list_all-by p q h (x ∷ xs) = ap₂ ◌&&◌ (h x) (list_all-by p q h xs)

pub list_all-all : {A : Type 0} (p : A → Bool) (xs : List A) → list_all p xs ≡ all p xs
list_all-all p = list_all-by p p (λ x. refl)

-- `.filter(..).count()`
pub count_by-count : {A : Type 0} (p : A → Bool) (xs : List A) → count_by p xs ≡ count p xs
unfolding count
count_by-count {A} p xs = sym (is_count_by (count p) p refl step xs)
  where
    step : (x : A) (xs : List A) → count p (x ∷ xs) ≡ cond (p x) (1 + count p xs) (count p xs)
    step x xs = let e : suc (count p xs) ≡ 1 + count p xs = omega arith in ap (λ (n : ℕ). cond (p x) n (count p xs)) e

pub count_by-num : (w : List ℕ) (v : ℕ) → count_by (eqb v) w ≡ num w v
unfolding num
count_by-num w v = count_by-count (eqb v) w

pub count_by-below : (w : List ℕ) (v : ℕ) → count_by (λ x. ltb x v) w ≡ below w v
unfolding below
count_by-below w v = count_by-count (λ x. ltb x v) w

-- `.any(|x| x == v)`
pub list_any-occurs : (v : ℕ) (w : List ℕ) → list_any (eqb v) w ≡ occurs w v
unfolding occurs num count
list_any-occurs v [] = refl
list_any-occurs v (x ∷ w) = elim (eqb v x) as (λ b. (b || list_any (eqb v) w) ≡ ltb 0 (cond b (suc (count (eqb v) w)) (count (eqb v) w))) [
  | true ↦ sym (lt-ltb 0 (suc (count (eqb v) w)) (omega arith))
  | false ↦ list_any-occurs v w
]

-- `.position(..)`, with the length where there is none
pub position_or_len-first_index : {A : Type 0} (p : A → Bool) (xs : List A) → position_or_len p xs ≡ first_index p xs
unfolding first_index
position_or_len-first_index {A} p xs = sym (is_position_or_len (first_index p) p refl step xs)
  where
    step : (x : A) (xs : List A) → first_index p (x ∷ xs) ≡ cond (p x) 0 (1 + first_index p xs)
    step x xs = let e : suc (first_index p xs) ≡ 1 + first_index p xs = omega arith in ap (λ (n : ℕ). cond (p x) 0 n) e

-- `t[..v].iter().sum()`
pub sum_take-upto : (t : List ℕ) (v : ℕ) → sum (take v t) ≡ upto t v
unfolding upto
sum_take-upto t zero = refl
sum_take-upto t (suc v) = elim (dec_lt v (length t)) [
  | yes lt ↦ rw (← add-one) (sum_by_more (λ x. x) t v 0 lt ∙ ap (λ (n : ℕ). n + get_or t v 0) (sum_take-upto t v))
  | no ge ↦
      let whole : take (suc v) t ≡ take v t = take_all (suc v) t (omega arith) ∙ sym (take_all v t (omega arith)) in
      rw (whole, get_or_past t v 0 (omega arith)) (omega (arith, sum_take-upto t v))
]

-- `.map(..).sum()`
pub sum_by-total : (f : ℕ → ℕ) (l : List ℕ) → sum_by f l ≡ total f l
sum_by-total f l = sym (is_sum_by (total f) f (unfold total in refl) (λ x l. unfold total in refl) l)
