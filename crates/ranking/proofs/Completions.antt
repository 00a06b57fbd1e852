-- How many ways a prefix has to become a height window. Assumes nothing.
use mathlib.Core.Bool.{Bool, true, cond, ◌&&◌, and-eq-true_iff, and-false}
use mathlib.Core.Path.{◌≡◌, refl, sym, ap, ◌∙◌}
use mathlib.Core.List.Memᴰ
use mathlib.Core.List.Memᴰ.{head as here}
use mathlib.Core.List.{List, [], ◌∷◌, ◌++◌, map, append-nil}
use Prim.Native.Nat.{ℕ, zero, suc, pred, ◌+◌, ◌-◌, ◌*◌, ◌≤◌, ◌<◌}
use native.Mathlib.Nat.{sub-zero}
use native.Mathlib.Omega.{arith}
use native.Mathlib.Decide.{dec_le, ℕ_discrete}
use lib.Dec.{eqb}
use lib.ListN.{length}
use lib.Seq.{append_snoc}
use borrow.Author.Tests.{eqb-true, eq-eqb, ne_eqb}
use Rattle.weak_orders.specs.Window.{count, range, occurs, different, height, is_height, bound}
use Rattle.weak_orders.proofs.HeightForm.{height_form, form_height}
use Rattle.weak_orders.proofs.Lists.{count_nil, count_cons, count_cong, count_map, count_none, in_range, of_range}
use Rattle.weak_orders.proofs.Symbols.{bound_append, bound_back, different-below, different≤bound, different≤length, different_old}
use Rattle.weak_orders.proofs.Symbols.{different_new}
use Rattle.weak_orders.proofs.Tests.{◌∈◌, by_test, bit}
use Rattle.ranking.specs.Counts.{L, sum, a, ways, ways_from}
use Rattle.ranking.specs.Dictionary.{strings, height_windows}
use Rattle.ranking.proofs.Listing.{length-select, count-select, in_flat_map, of_flat_map}
use Rattle.ranking.proofs.Sums.{sum_cong, sum-none, sum_append, sum_past, sum-choice, count-flat_map, count_by_value}
use Rattle.ranking.proofs.CountLaws.{L-ways, L-none, ways-none}

-- ---- the strings

pub in_strings : (w : List ℕ) (n : ℕ) → bound w ≤ n → w ∈ strings (length w) n
unfolding strings bound
in_strings [] n h = here refl
in_strings (x ∷ w) n h = in_flat_map (λ v. map (λ s. v ∷ s) (strings (length w) n))
    (in_range n x (omega arith)) (Memᴰ.map (λ s. x ∷ s) (in_strings w n (omega arith)))

pub of_strings : (m n : ℕ) {w : List ℕ} → w ∈ strings m n → (length w ≡ m) × (bound w ≤ n)
unfolding strings bound
of_strings zero n i = let e = Memᴰ.eq_of_singleton i in (ap length e, omega (arith, ap bound e))
of_strings (suc m) n i =
    let (v, l, j) = of_flat_map (λ v. map (λ s. v ∷ s) (strings m n)) (range n) i in
    let (s, k, e) = Memᴰ.of_map (λ s. v ∷ s) (strings m n) j in
    let (e', b) = of_strings m n k in
    (sym (ap length e) ∙ ap suc e', omega (arith, ap bound e, of_range n l))

-- a string is a first symbol and a string
pub count-strings : (q : List ℕ → Bool) (m n : ℕ) → count q (strings (suc m) n) ≡ sum (λ v. count (λ s. q (v ∷ s)) (strings m n)) n
unfolding strings
count-strings q m n = count-flat_map q (λ v. map (λ s. v ∷ s) (strings m n)) n
    ∙ sum_cong (λ v. count q (map (λ s. v ∷ s) (strings m n))) (λ v. count (λ s. q (v ∷ s)) (strings m n)) n
    (λ v l. count_map q (λ s. v ∷ s) (strings m n))

-- ---- fillings: a prefix, and r symbols below n more, so that the whole passes a test
unfoldable pub fillings : (List ℕ → Bool) → ℕ → List ℕ → ℕ → ℕ
unfolding count strings
fillings q n p r = count (λ s. q (p ++ s)) (strings r n)

pub fillings_zero : (q : List ℕ → Bool) (n : ℕ) (p : List ℕ) → fillings q n p 0 ≡ bit (q p)
unfolding fillings
fillings_zero q n p = omega (arith, count_cons (λ s. q (p ++ s)) [] [], count_nil (λ s. q (p ++ s)), ap (λ w. bit (q w)) (append-nil p))

pub fillings_suc : (q : List ℕ → Bool) (n : ℕ) (p : List ℕ) (r : ℕ) → fillings q n p (suc r) ≡ sum (λ v. fillings q n (p ++ (v ∷ [])) r) n
unfolding fillings
fillings_suc q n p r = count-strings (λ s. q (p ++ s)) r n
    ∙ sum_cong (λ v. count (λ s. q (p ++ (v ∷ s))) (strings r n)) (λ v. count (λ s. q (p ++ (v ∷ []) ++ s)) (strings r n)) n
    (λ v l. count_cong (λ s. q (p ++ (v ∷ s))) (λ s. q (p ++ (v ∷ []) ++ s)) (strings r n) (λ s m. ap q (sym (append_snoc p v s))))

-- height windows of k different symbols
abbrev pub is_height_of : ℕ → List ℕ → Bool
is_height_of k w = is_height w && eqb (different w) k

-- they have the symbols below k
is_height_of_in : (k : ℕ) (w : List ℕ) → is_height_of k w ≡ true → (different w ≡ k) × (bound w ≡ k)
is_height_of_in k w h =
    let (i, e) = (and-eq-true_iff (is_height w) (eqb (different w) k)).0 h in
    omega (arith, eqb-true (different w) k e, height_form w i)

-- a prefix with a greater symbol has no way to them
pub no_fillings : (k n : ℕ) (p : List ℕ) (r : ℕ) → k < bound p → fillings (is_height_of k) n p r ≡ 0
no_fillings k n p zero h = fillings_zero (is_height_of k) n p ∙ by_test (is_height_of k p)
    (λ e. absurd (omega (arith, is_height_of_in k p e)))
    (λ e. rw e)
no_fillings k n p (suc r) h = fillings_suc (is_height_of k) n p r
    ∙ sum-none (λ v. fillings (is_height_of k) n (p ++ (v ∷ [])) r) n
    (λ v l. no_fillings k n (p ++ (v ∷ [])) r (omega (arith, bound_back p v)))

-- any other has as many as there are ways to place the missing ones
pub fillings_ways : (k n : ℕ) (p : List ℕ) (r : ℕ) → bound p ≤ k → k ≤ n →
    fillings (is_height_of k) n p r ≡ ways r (k - different p) (different p)
unfolding ways height
fillings_ways k n p zero h h' = fillings_zero (is_height_of k) n p ∙ elim (ℕ_discrete (different p) k) [
  | yes e ↦
      let z : k - different p ≡ 0 = omega arith in
      rw (form_height p (omega (arith, different≤bound p)), eq-eqb (different p) k e, z)
  | no ne ↦ rw (ne_eqb (different p) k ne, and-false, ways-none 0 (k - different p) (different p) (omega (arith, different≤bound p)))
]
fillings_ways k n p (suc r) h h' =
    let d = different p in
    let x = ways r (k - d) d in
    let y = ways r (pred (k - d)) (suc d) in
    let f : ℕ → ℕ = λ v. fillings (is_height_of k) n (p ++ (v ∷ [])) r in
    let all : n ≡ k + (n - k) = omega arith in
    let to-k = sum_past f k (n - k) (λ v a b. no_fillings k n (p ++ (v ∷ [])) r (omega (arith, bound_back p v))) in
    let ih : (v : ℕ) → v < k → f v ≡ ways r (k - different (p ++ (v ∷ []))) (different (p ++ (v ∷ []))) =
    λ v l. fillings_ways k n (p ++ (v ∷ [])) r (omega (arith, bound_back p v)) h' in
    let e' : k - suc d ≡ pred (k - d) = omega arith in
    let next : (v : ℕ) → v < k → f v ≡ cond (occurs p v) x y =
    λ v l. by_test (occurs p v) (λ o. cc (ih v l, different_old p v o)) (λ o. cc (ih v l, different_new p v o)) in
    let e = different-below p k h in
    omega (
      arith,
      fillings_suc (is_height_of k) n p r,
      ap (sum f) all,
      to-k,
      sum_cong f (λ v. cond (occurs p v) x y) k next,
      sum-choice (occurs p) x y k,
      ap (◌* x) e,
      ap (λ c. (k - c) * y) e,
    )

-- ---- endings: the strings of r symbols below n that make p a height window
unfoldable pub endings : ℕ → List ℕ → ℕ → ℕ
unfolding count is_height strings
endings n p r = count (λ s. is_height (p ++ s)) (strings r n)

pub endings_suc : (n : ℕ) (p : List ℕ) (r : ℕ) → endings n p (suc r) ≡ sum (λ v. endings n (p ++ (v ∷ [])) r) n
unfolding endings fillings
endings_suc n p r = fillings_suc is_height n p r

pub endings_zero : (n : ℕ) (p : List ℕ) → endings n p 0 ≡ bit (is_height p)
unfolding endings fillings
endings_zero n p = fillings_zero is_height n p

-- they are told apart by how many different symbols they come to
by_different : (n : ℕ) (p : List ℕ) (r : ℕ) → bound p ≤ n → endings n p r ≡ sum (λ k. fillings (is_height_of k) n p r) (suc n)
unfolding endings fillings
by_different n p r h = count_by_value (λ s. is_height (p ++ s)) (λ s. different (p ++ s)) (suc n) (strings r n)
    (λ s m i. let (e, b) = of_strings r n m in omega (arith, different≤bound (p ++ s), bound_append p s))

-- so with d different symbols in p: the ways for each number k of symbols from the bound of p on, with k - d missing
pub endings_ways : (n : ℕ) (p : List ℕ) (r : ℕ) → bound p ≤ n → length p + r ≡ n →
    endings n p r ≡ ways_from r (bound p - different p) (different p)
unfolding ways_from
endings_ways n p r h e =
    let b = bound p in
    let d = different p in
    let m = b - d in
    let c = suc r - m in
    let fit : b + c ≤ suc n = omega (arith, different≤bound p, different≤length p) in
    let l = suc n - (b + c) in
    let all : suc n ≡ b + (c + l) = omega arith in
    let f : ℕ → ℕ = λ k. fillings (is_height_of k) n p r in
    let g : ℕ → ℕ = λ j. ways r (m + j) d in
    let same : (j : ℕ) → j < c + l → f (b + j) ≡ g j = λ j lt.
    fillings_ways (b + j) n p r (omega arith) (omega arith) ∙ ap (λ k. ways r k d) (omega (arith, different≤bound p)) in
    omega (
      arith,
      by_different n p r h,
      ap (sum f) all,
      sum_append f b (c + l),
      sum-none f b (λ k l. no_fillings k n p r l),
      sum_cong (λ j. f (b + j)) g (c + l) same,
      sum_past g c l (λ j lo hi. ways-none r (m + j) d (omega arith)),
    )

-- ---- the numbers of height windows

-- L(n, k) have exactly k different symbols
fillings_L : (n k : ℕ) → fillings (is_height_of k) n [] n ≡ L n k
unfolding fillings bound different height
fillings_L n k = elim (dec_le k n) [
  | yes l ↦ fillings_ways k n [] n (omega arith) l ∙ rw sub-zero (sym (L-ways n k))
  | no l ↦ count_none (is_height_of k) (strings n n) (λ w m. by_test (is_height_of k w)
      (λ e. let (e', b) = of_strings n n m in absurd (omega (arith, is_height_of_in k w e)))
      (λ e. e)) ∙ sym (L-none n k (omega arith))
]

pub height_windows-different : (n k : ℕ) → count (λ w. eqb (different w) k) (height_windows n) ≡ L n k
unfolding height_windows fillings
height_windows-different n k = count-select is_height (λ w. eqb (different w) k) (strings n n) ∙ fillings_L n k

pub endings_all : (n : ℕ) → endings n [] n ≡ a n
unfolding a bound
endings_all n = by_different n [] n (omega arith) ∙ sum_cong (λ k. fillings (is_height_of k) n [] n) (L n) (suc n) (λ k l. fillings_L n k)

pub height_windows-length : (n : ℕ) → length (height_windows n) ≡ a n
unfolding height_windows endings
height_windows-length n = length-select is_height (strings n n) ∙ endings_all n
