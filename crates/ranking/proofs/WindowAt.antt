-- The way back: from a place to the window, symbol by symbol. Assumes nothing.
use mathlib.Core.Bool.{true, cond}
use mathlib.Core.Path.{◌≡◌, refl, sym, ap, ◌∙◌}
use mathlib.Core.List.{List, [], ◌∷◌, ◌++◌, append-nil, head-eq_of_cons-eq, tail-eq_of_cons-eq}
use Prim.Native.Nat.{ℕ, zero, suc, ◌+◌, ◌-◌, ◌≤◌, ◌<◌}
use native.Mathlib.Nat.{sub-zero}
use native.Mathlib.Numerals.{add-one}
use native.Mathlib.Omega.{arith}
use lib.Dec.{leb}
use lib.ListN.{length, get_or, take, drop, length-take, length-append, take-append-drop}
use lib.Seq.{append_snoc, take-suc, drop-cons}
use borrow.Author.Tests.{leb-true, leb-false}
use Rattle.weak_orders.specs.Window.{is_height, bound}
use Rattle.weak_orders.proofs.HeightForm.{height_bound}
use Rattle.weak_orders.proofs.Symbols.{bound_append, bound_back}
use Rattle.weak_orders.proofs.Tests.{by_test, bit}
use Rattle.ranking.specs.Counts.{sum, a, Found}
use Rattle.ranking.specs.Dictionary.{completions, completions_with, place, window_at}
use Rattle.ranking.specs.Numbering.{HeightWindow}
use Rattle.ranking.proofs.Places.{heights-numbered, place_from, place_by_prefixes}
use Rattle.ranking.proofs.Prefixes.{completions_suc, completions_full, completions-all}
use Rattle.ranking.proofs.Sums.{sum_suc, sum_mono}

-- ---- where the sums of f pass k

-- the number below n
unfoldable pub find : (ℕ → ℕ) → ℕ → ℕ → ℕ
unfolding sum
find f zero k = 0
find f (suc n) k = cond (leb (sum f n) k) n (find f n k)

pub find_found : (f : ℕ → ℕ) (n k : ℕ) → k < sum f n → (find f n k < n) × Found f k (find f n k) (k - sum f (find f n k))
unfolding find
find_found f zero k h = absurd (omega arith)
find_found f (suc n) k h = by_test (leb (sum f n) k)
    (λ e. let l = leb-true (sum f n) k e in
    rw e (omega arith, record { at = omega arith; within = omega (arith, sum_suc f n) }))
    (λ e. let (l, F) = find_found f n k (leb-false (sum f n) k e) in rw e (omega arith, F))

-- there is but one
pub found_only : (f : ℕ → ℕ) (k u l v m : ℕ) → Found f k u l → Found f k v m → u ≡ v
found_only f k u l v m F G =
    let h : ¬ (u < v) = λ lt. omega (arith, sum_mono f (suc u) v lt, sum_suc f u, F.at, F.within, G.at) in
    let h' : ¬ (v < u) = λ lt. omega (arith, sum_mono f (suc v) u lt, sum_suc f v, F.at, G.at, G.within) in
    omega arith

-- ---- the window at a place among those that begin with p

unfoldable pub symbol_at : ℕ → List ℕ → ℕ → ℕ
unfolding find completions
symbol_at n p k = find (completions_with n p) n k

-- its r symbols after p
unfoldable pub window_from : ℕ → List ℕ → ℕ → ℕ → List ℕ
unfolding symbol_at sum completions
window_from n p zero k = []
window_from n p (suc r) k =
    let v = symbol_at n p k in
    v ∷ window_from n (p ++ (v ∷ [])) r (k - sum (completions_with n p) v)

module _ (n : ℕ) (p : List ℕ) (h : bound p ≤ n) (l : length p < n) (k : ℕ) (lt : k < completions n p) where
  symbol_at_found : (symbol_at n p k < n) × Found (completions_with n p) k (symbol_at n p k) (k - sum (completions_with n p) (symbol_at n p k))
  unfolding symbol_at
  symbol_at_found = find_found (completions_with n p) n k (omega (arith, completions_suc n p h l))

  -- a loop that has found the symbol by its own way goes on with the rest
  pub window_from_next : (r v m : ℕ) → Found (completions_with n p) k v m → window_from n p (suc r) k ≡ v ∷ window_from n (p ++ (v ∷ [])) r m
  unfolding window_from
  window_from_next r v m F =
      let e = found_only (completions_with n p) k (symbol_at n p k) _ v m symbol_at_found.1 F in
      let e' : k - sum (completions_with n p) v ≡ m = omega (arith, F.at) in
      ap (λ v. v ∷ window_from n (p ++ (v ∷ [])) r (k - sum (completions_with n p) v)) e ∙ ap (λ m. v ∷ window_from n (p ++ (v ∷ [])) r m) e'

-- s makes p a height window, and stands at the place k among those that do
pub record Standing (n : ℕ) (p : List ℕ) (r k : ℕ) (s : List ℕ) : Type 0 where
  pub long : length s ≡ r
  pub low : bound s ≤ n
  pub form : is_height (p ++ s) ≡ true
  pub at : place_from n p s ≡ k

pub window_from_placed : (n : ℕ) (p : List ℕ) (r k : ℕ) → bound p ≤ n → length p + r ≡ n → k < completions n p →
    Standing n p r k (window_from n p r k)
unfolding window_from place_from bound
window_from_placed n p zero k h e lt =
    let all = completions_full n p h (omega arith) in
    by_test (is_height p)
    (λ t. record {
      long = refl;
      low = omega arith;
      form = ap is_height (append-nil p) ∙ t;
      at = let b : bit (is_height p) ≡ 1 = rw t in omega arith;
    })
    (λ t. let b : bit (is_height p) ≡ 0 = rw t in absurd (omega arith))
window_from_placed n p (suc r) k h e lt =
    let v = symbol_at n p k in
    let (l, F) = symbol_at_found n p h (omega arith) k lt in
    let m = k - sum (completions_with n p) v in
    let R = window_from_placed n (p ++ (v ∷ [])) r m (omega (arith, bound_back p v)) (omega (arith, length-append p (v ∷ []))) F.within in
    let s = window_from n (p ++ (v ∷ [])) r m in
    record {
      long = ap suc R.long;
      low = omega (arith, R.low);
      form = ap is_height (sym (append_snoc p v s)) ∙ R.form;
      at = omega (arith, R.at, F.at);
    }

pub window_by_symbols : (n k : ℕ) → k < a n → window_from n [] n k ≡ window_at n k
unfolding bound
window_by_symbols n k h =
    let s = window_from n [] n k in
    let R = window_from_placed n [] n k (omega arith) (omega arith) (omega (arith, completions-all n)) in
    let e : place s ≡ k = place_by_prefixes s (omega (arith, R.low, R.long)) ∙ ap (λ m. place_from m [] s) R.long ∙ R.at in
    sym ((heights-numbered n).item_place s (R.long, R.form)) ∙ ap (window_at n) e

-- ---- a loop over the symbols of the window w at a place: at the index i, w stands at the place k among those that begin as it does

pub record Reached (n : ℕ) (w : List ℕ) (i k : ℕ) : Type 0 where
  pub left : k < completions n (take i w)
  pub rest : drop i w ≡ window_from n (take i w) (n - i) k

pub reached_start : (n k : ℕ) → k < a n → Reached n (window_at n k) 0 k
reached_start n k h = record { left = omega (arith, completions-all n); rest = rw sub-zero (sym (window_by_symbols n k h)) }

pub reached_next : (n : ℕ) (w : List ℕ) → HeightWindow n w → (i k v m : ℕ) → i < n → Reached n w i k →
    Found (completions_with n (take i w)) k v m →
    (v ≡ get_or w i 0) × Reached n w (i + 1) m
reached_next n w (len, form) i k v m l R F =
    let p = take i w in
    let low : bound p ≤ n = omega (arith, height_bound w form, bound_append p (drop i w), ap bound (take-append-drop i w)) in
    let one : n - i ≡ suc (n - suc i) = omega arith in
    let e = sym (drop-cons w i 0 (omega arith)) ∙ R.rest ∙ ap (λ r. window_from n p r k) one
    ∙ window_from_next n p low (omega (arith, length-take i w)) k R.left (n - suc i) v m F in
    let x = head-eq_of_cons-eq e in
    let q : take (suc i) w ≡ p ++ (v ∷ []) = take-suc w i 0 (omega arith) ∙ ap (λ x. p ++ (x ∷ [])) x in
    (sym x, rw add-one (record { left = rw q F.within; rest = rw q (tail-eq_of_cons-eq e) }))
