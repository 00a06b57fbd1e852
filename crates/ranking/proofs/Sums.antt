-- Laws of sums, and counts as sums. Assumes nothing.
use mathlib.Core.Bool.{Bool, true, cond, ◌&&◌}
use mathlib.Core.Logic.{◌≢◌}
use mathlib.Core.Path.{◌≡◌, refl, sym, ap, ◌∙◌}
use mathlib.Core.List.Memᴰ.{head as here}
use mathlib.Core.List.Memᴰ.{tail as there}
use mathlib.Core.List.{List, [], ◌∷◌, flat_map}
use Prim.Native.Nat.{ℕ, zero, suc, ◌+◌, ◌-◌, ◌*◌, ◌≤◌, ◌<◌}
use native.Mathlib.Nat.{add-zero, add-suc}
use native.Mathlib.Numerals.{add-one}
use native.Mathlib.Omega.{arith}
use native.Mathlib.Decide.{dec_lt, le_ind}
use lib.Dec.{eqb}
use lib.ListN.{length, get_or, take}
use borrow.Author.Tests.{eq-eqb, ne_eqb}
use Rattle.std.specs.List.{sum as list_sum}
use Rattle.std.proofs.lemmas.List.Sums.{sum_by_more}
use Rattle.weak_orders.specs.Window.{count, range}
use Rattle.weak_orders.proofs.Lists.{count_nil, count_cons, count_append, count-range}
use Rattle.weak_orders.proofs.Tests.{◌∈◌, by_test, bit, bit≤1}
use Rattle.ranking.specs.Counts.{sum}
use Rattle.ranking.proofs.Listing.{flat_map-range}

pub sum_zero : (f : ℕ → ℕ) → sum f 0 ≡ 0
unfolding sum
sum_zero f = refl

pub sum_suc : (f : ℕ → ℕ) (n : ℕ) → sum f (suc n) ≡ sum f n + f n
unfolding sum
sum_suc f n = refl

-- the same, as code counts
pub sum_more : (f : ℕ → ℕ) (n : ℕ) → sum f n + f n ≡ sum f (n + 1)
sum_more f n = sym (ap (sum f) (add-one n) ∙ sum_suc f n)

pub sum_cong : (f g : ℕ → ℕ) (n : ℕ) → ((i : ℕ) → i < n → f i ≡ g i) → sum f n ≡ sum g n
unfolding sum
sum_cong f g zero h = refl
sum_cong f g (suc n) h = omega (arith, sum_cong f g n (λ i l. h i (omega arith)), h n (omega arith))

pub sum-none : (f : ℕ → ℕ) (n : ℕ) → ((i : ℕ) → i < n → f i ≡ 0) → sum f n ≡ 0
unfolding sum
sum-none f zero h = refl
sum-none f (suc n) h = omega (arith, sum-none f n (λ i l. h i (omega arith)), h n (omega arith))

pub sum_add : (f g : ℕ → ℕ) (n : ℕ) → sum (λ i. f i + g i) n ≡ sum f n + sum g n
unfolding sum
sum_add f g zero = refl
sum_add f g (suc n) = omega (arith, sum_add f g n)

pub sum_mono : (f : ℕ → ℕ) (m n : ℕ) → m ≤ n → sum f m ≤ sum f n
sum_mono f m n h = le_ind (λ n. sum f m ≤ sum f n) (omega arith) (λ n l i. omega (arith, sum_suc f n)) n h

-- a sum that is less has fewer terms
pub sum-before : (f : ℕ → ℕ) (m n k : ℕ) → sum f m ≤ k → k < sum f n → m < n
sum-before f m n k h lt = elim (dec_lt m n) [ yes l ↦ l | no l ↦ absurd (omega (arith, sum_mono f n m (omega arith))) ]

pub term≤sum : (f : ℕ → ℕ) (n i : ℕ) → i < n → f i ≤ sum f n
term≤sum f n i l = omega (arith, sum_suc f i, sum_mono f (suc i) n l)

-- the first m terms, and then k more
pub sum_append : (f : ℕ → ℕ) (m k : ℕ) → sum f (m + k) ≡ sum f m + sum (λ j. f (m + j)) k
unfolding sum
sum_append f m zero = omega (arith, ap (sum f) (add-zero m))
sum_append f m (suc k) = omega (arith, ap (sum f) (add-suc m k), sum_append f m k)

-- terms that are all 0 from m on
pub sum_past : (f : ℕ → ℕ) (m k : ℕ) → ((i : ℕ) → m ≤ i → i < m + k → f i ≡ 0) → sum f (m + k) ≡ sum f m
sum_past f m k h = omega (arith, sum_append f m k, sum-none (λ j. f (m + j)) k (λ i l. h (m + i) (omega arith) (omega arith)))

-- terms that are all 0 but one
pub sum-single : (f : ℕ → ℕ) (n i : ℕ) → i < n → ((j : ℕ) → j < n → j ≢ i → f j ≡ 0) → sum f n ≡ f i
unfolding sum
sum-single f zero i l h = absurd (omega arith)
sum-single f (suc n) i l h = elim (dec_lt i n) [
  | yes l' ↦ omega (arith, sum-single f n i l' (λ j a b. h j (omega arith) b), h n (omega arith) (omega arith))
  | no l' ↦ let e : i ≡ n = omega arith in
      omega (arith, ap f e, sum-none f n (λ j a. h j (omega arith) (omega arith)))
]

-- the sum of the first elements of a list
pub sum_front : (t : List ℕ) (v : ℕ) → v ≤ length t → list_sum (take v t) ≡ sum (λ u. get_or t u 0) v
unfolding sum
sum_front t zero l = refl
sum_front t (suc v) l =
    let e : v + 1 ≡ suc v = omega arith in
    omega (arith, ap (λ n. list_sum (take n t)) e, sum_by_more (λ x. x) t v 0 (omega arith), sum_front t v (omega arith))

pub count-range≤ : (b : ℕ → Bool) (n : ℕ) → count b (range n) ≤ n
unfolding range
count-range≤ b zero = omega (arith, count_nil b)
count-range≤ b (suc n) = omega (arith, count-range b n, bit≤1 (b n), count-range≤ b n)

-- one of two values each time
pub sum-choice : (b : ℕ → Bool) (x y n : ℕ) → sum (λ v. cond (b v) x y) n ≡ count b (range n) * x + (n - count b (range n)) * y
unfolding sum range
sum-choice b x y zero = let e : count b [] ≡ 0 = count_nil b in rw e (omega arith)
sum-choice b x y (suc n) =
    let le = count-range≤ b n in
    let up = count-range b n in
    by_test (b n)
    (λ e. let e₀ : cond (b n) x y ≡ x = rw e in
    let e₁ : count b (range (suc n)) ≡ suc (count b (range n)) = omega (arith, rw e at up) in
    let e₂ : suc n - count b (range (suc n)) ≡ n - count b (range n) = omega arith in
    omega (arith, sum-choice b x y n, ap (◌* x) e₁, ap (◌* y) e₂))
    (λ e. let e₀ : cond (b n) x y ≡ y = rw e in
    let e₁ : count b (range (suc n)) ≡ count b (range n) = omega (arith, rw e at up) in
    let e₂ : suc n - count b (range (suc n)) ≡ suc (n - count b (range n)) = omega arith in
    omega (arith, sum-choice b x y n, ap (◌* x) e₁, ap (◌* y) e₂))

pub count-flat_map : {A : Type 0} (p : A → Bool) (f : ℕ → List A) (n : ℕ) → count p (flat_map f (range n)) ≡ sum (λ v. count p (f v)) n
unfolding sum range flat_map
count-flat_map p f zero = count_nil p
count-flat_map p f (suc n) = ap (count p) (flat_map-range f n)
    ∙ omega (arith, count_append p (flat_map f (range n)) (f n), count-flat_map p f n)

-- exactly one number below N is v
pub sum_is : (v N : ℕ) → v < N → sum (λ k. bit (eqb v k)) N ≡ 1
sum_is v N l = sum-single (λ k. bit (eqb v k)) N v l (λ k a ne. rw (ne_eqb v k (λ e. ne (sym e)))) ∙ rw (eq-eqb v v refl)

-- a count told apart by a value below N
pub count_by_value : {A : Type 0} (p : A → Bool) (f : A → ℕ) (N : ℕ) (xs : List A) → ((x : A) → x ∈ xs → p x ≡ true → f x < N) →
    count p xs ≡ sum (λ k. count (λ x. p x && eqb (f x) k) xs) N
count_by_value {A} p f N [] h =
    let q : ℕ → A → Bool = λ k x. p x && eqb (f x) k in
    omega (arith, count_nil p, sum-none (λ k. count (q k) []) N (λ k l. count_nil (q k)))
count_by_value {A} p f N (x ∷ xs) h =
    let q : ℕ → A → Bool = λ k x. p x && eqb (f x) k in
    let one : sum (λ k. bit (q k x)) N ≡ bit (p x) = by_test (p x)
    (λ e. rw e (sum_is (f x) N (h x (here refl) e)))
    (λ e. rw e (sum-none (λ k. 0) N (λ k l. refl))) in
    omega (
      arith,
      count_cons p x xs,
      one,
      sum_cong (λ k. count (q k) (x ∷ xs)) (λ k. bit (q k x) + count (q k) xs) N (λ k l. count_cons (q k) x xs),
      sum_add (λ k. bit (q k x)) (λ k. count (q k) xs) N,
      count_by_value p f N xs (λ y m. h y (there m)),
    )
