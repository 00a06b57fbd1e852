-- The completions of a prefix: the windows that begin with it, counted by the ways to fill the places that are left. Assumes nothing.
use mathlib.Core.Bool.{Bool, true, false, ◌&&◌, and-true, and-false, and-eq-true_iff, false≢true}
use mathlib.Core.List.{List, [], ◌∷◌, ◌++◌}
use mathlib.Core.Path.{◌≡◌, refl, sym, ap, ◌∙◌}
use Prim.Native.Nat.{ℕ, suc, max, ◌+◌, ◌-◌, ◌≤◌, ◌<◌}
use native.Mathlib.Nat.{zero-add, suc-add}
use native.Mathlib.Omega.{arith}
use native.Mathlib.Decide.{dec_le}
use lib.Dec.{eqb}
use lib.ListN.{length, length-append}
use borrow.Author.Tests.{eqb-true, eq-eqb, ne_eqb}
use Rattle.weak_orders.specs.Window.{count, occurs, different, is_height, bound}
use Rattle.weak_orders.proofs.Lists.{count_cong, count_none}
use Rattle.weak_orders.proofs.Symbols.{bound_back, different≤bound, different≤length, different_old, different_new}
use Rattle.weak_orders.proofs.Tests.{by_test, bit}
use Rattle.ranking.specs.Counts.{sum, a, ways_from}
use Rattle.ranking.specs.Dictionary.{strings, height_windows, begins, completions}
use Rattle.ranking.proofs.Completions.{of_strings, count-strings, fillings, endings, endings_suc, endings_zero, endings_ways}
use Rattle.ranking.proofs.Completions.{endings_all}
use Rattle.ranking.proofs.CountLaws.{ways_from-none, ways_from_split}
use Rattle.ranking.proofs.Listing.{of_select, count-select}
use Rattle.ranking.proofs.Sums.{sum_cong, sum-single}

-- the strings that begin with p are p and any string
begins_fillings : (q : List ℕ → Bool) (n : ℕ) (p : List ℕ) (r : ℕ) → bound p ≤ n →
    count (λ w. q w && begins p w) (strings (length p + r) n) ≡ fillings q n p r
unfolding begins bound fillings
begins_fillings q n [] r h = rw zero-add (count_cong (λ w. q w && true) q (strings r n) (λ w m. and-true (q w)))
begins_fillings q n (x ∷ p) r h =
    let f : ℕ → List ℕ → Bool = λ v s. q (v ∷ s) && (eqb x v && begins p s) in
    let m = length p + r in
    ap (λ k. count (λ w. q w && begins (x ∷ p) w) (strings k n)) (suc-add (length p) r)
    ∙ count-strings (λ w. q w && begins (x ∷ p) w) m n
    ∙ sum-single (λ v. count (f v) (strings m n)) n x (omega arith) (λ v l ne.
    count_none (f v) (strings m n) (λ s i. rw (ne_eqb x v (λ e. ne (sym e)), and-false)))
    ∙ count_cong (f x) (λ s. q (x ∷ s) && begins p s) (strings m n) (λ s i. rw (eq-eqb x x refl))
    ∙ begins_fillings (λ s. q (x ∷ s)) n p r (omega arith)

begins-bound : (p w : List ℕ) → begins p w ≡ true → bound p ≤ bound w
unfolding begins bound
begins-bound [] w h = omega arith
begins-bound (x ∷ p) [] h = absurd (false≢true h)
begins-bound (x ∷ p) (y ∷ w) h =
    let (e, t) = (and-eq-true_iff (eqb x y) (begins p w)).0 h in
    omega (arith, eqb-true x y e, begins-bound p w t)

-- a prefix with a symbol that no height window of n holds has none
completions_high : (n : ℕ) (p : List ℕ) → n < bound p → completions n p ≡ 0
unfolding completions height_windows
completions_high n p h = count_none (begins p) (height_windows n) (λ w m. by_test (begins p w)
    (λ e. let (i, t) = of_select is_height (strings n n) m in
    let (l, b) = of_strings n n i in
    absurd (omega (arith, begins-bound p w e)))
    (λ e. e))

pub completions_endings : (n : ℕ) (p : List ℕ) (r : ℕ) → bound p ≤ n → length p + r ≡ n → completions n p ≡ endings n p r
unfolding completions height_windows endings fillings
completions_endings n p r h e = count-select is_height (begins p) (strings n n)
    ∙ ap (λ m. count (λ w. is_height w && begins p w) (strings m n)) (sym e)
    ∙ begins_fillings is_height n p r h

-- with one symbol behind p or another; or none, where p is n long
pub sum_endings : (n : ℕ) (p : List ℕ) (r : ℕ) → bound p ≤ n → length p + suc r ≡ n → (x : ℕ) → x ≤ n →
    sum (λ v. endings n (p ++ (v ∷ [])) r) x ≡ sum (λ v. completions n (p ++ (v ∷ []))) x
sum_endings n p r h e x l = sum_cong (λ v. endings n (p ++ (v ∷ [])) r) (λ v. completions n (p ++ (v ∷ []))) x (λ v l'.
    sym (completions_endings n (p ++ (v ∷ [])) r (omega (arith, bound_back p v)) (omega (arith, length-append p (v ∷ [])))))

pub completions_suc : (n : ℕ) (p : List ℕ) → bound p ≤ n → length p < n → completions n p ≡ sum (λ v. completions n (p ++ (v ∷ []))) n
completions_suc n p h l =
    let r = n - suc (length p) in
    let e : length p + suc r ≡ n = omega arith in
    completions_endings n p (suc r) h e ∙ endings_suc n p r ∙ sum_endings n p r h e n (omega arith)

pub completions_full : (n : ℕ) (p : List ℕ) → bound p ≤ n → length p ≡ n → completions n p ≡ bit (is_height p)
completions_full n p h e = completions_endings n p 0 h (omega arith) ∙ endings_zero n p

pub completions-all : (n : ℕ) → completions n [] ≡ a n
unfolding bound
completions-all n = completions_endings n [] n (omega arith) (omega arith) ∙ endings_all n

-- the heights missing below the largest symbol of p, and any number more, go into the places that are left
pub completions-ways : (n : ℕ) (p : List ℕ) → length p ≤ n →
    completions n p ≡ ways_from (n - length p) (bound p - different p) (different p)
completions-ways n p h = elim (dec_le (bound p) n) [
  | yes l ↦ completions_endings n p (n - length p) l (omega arith) ∙ endings_ways n p (n - length p) l (omega arith)
  | no l ↦ completions_high n p (omega arith)
      ∙ sym (ways_from-none (n - length p) (bound p - different p) (different p) (omega (arith, different≤length p)))
]

-- one symbol more: one that p holds, or another
module _ (n : ℕ) (p : List ℕ) (v : ℕ) (h : length p < n) where
  by_ways : (d : ℕ) → different (p ++ (v ∷ [])) ≡ d →
      completions n (p ++ (v ∷ [])) ≡ ways_from (n - suc (length p)) (max (bound p) (suc v) - d) d
  by_ways d e =
      let l : length (p ++ (v ∷ [])) ≡ suc (length p) = omega (arith, length-append p (v ∷ [])) in
      completions-ways n (p ++ (v ∷ [])) (omega arith) ∙ rw (l, bound_back p v, e)

  pub completions_old : occurs p v ≡ true →
      completions n (p ++ (v ∷ [])) ≡ ways_from (n - suc (length p)) (max (bound p) (suc v) - different p) (different p)
  completions_old o = by_ways (different p) (different_old p v o)

  pub completions_new : occurs p v ≡ false → (m : ℕ) → m ≡ max (bound p) (suc v) - different p →
      completions n (p ++ (v ∷ [])) ≡ ways_from (n - suc (length p)) (m - 1) (different p) + ways_from (n - suc (length p)) m (different p)
  completions_new o m e =
      let r = n - suc (length p) in
      let d = different p in
      let up = different≤bound (p ++ (v ∷ [])) in
      let (e₀, e₁) : (max (bound p) (suc v) - suc d ≡ m - 1) × (suc (m - 1) ≡ m) = omega (arith, bound_back p v, different_new p v o) in
      omega (
        arith,
        by_ways (suc d) (different_new p v o),
        ap (λ k. ways_from r k (suc d)) e₀,
        ways_from_split r (m - 1) d,
        ap (λ k. ways_from r k d) e₁,
      )
