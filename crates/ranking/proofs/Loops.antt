-- The two loops over the symbols of a window in an array of 16: what they know at the index i. Assumes nothing.
use mathlib.Core.Bool.{true}
use mathlib.Core.List.{List}
use mathlib.Core.Path.{◌≡◌, sym, ap, ◌∙◌}
use Prim.Native.Nat.{ℕ, ◌+◌, ◌≤◌, ◌<◌}
use native.Mathlib.Omega.{arith}
use lib.ListN.{length, get_or, set, take, drop, length-take, take-append-drop}
use lib.Seq.{get_or-take, take-take}
use Rattle.weak_orders.specs.Converted.{is_height_window}
use Rattle.weak_orders.specs.Window.{padded, bound}
use Rattle.weak_orders.proofs.FormTests.{of_height_window}
use Rattle.weak_orders.proofs.HeightForm.{height_bound}
use Rattle.weak_orders.proofs.Lists.{get_or_in}
use Rattle.weak_orders.proofs.Padded.{take-padded, padded-next}
use Rattle.weak_orders.proofs.Symbols.{bound_in, bound_append}
use Rattle.ranking.specs.Counts.{sum, a, Found}
use Rattle.ranking.specs.Dictionary.{completions_with, place, window_at}
use Rattle.ranking.specs.Tables.{Entries}
use Rattle.ranking.specs.Numbering.{HeightWindow}
use Rattle.ranking.proofs.Places.{heights-numbered, place_at, place-upto, place-sum}
use Rattle.ranking.proofs.Prefixes.{completions_suc}
use Rattle.ranking.proofs.Size.{most, a≤most}
use Rattle.ranking.proofs.Sums.{sum_cong}
use Rattle.ranking.proofs.WindowAt.{Reached, reached_next}

-- counts for the first symbols, summed
entries_sum : (t : List ℕ) (f : ℕ → ℕ) (n : ℕ) → Entries t f n → (m : ℕ) → m ≤ n → sum (λ i. get_or t i 0) m ≡ sum f m
entries_sum t f n h m l = sum_cong (λ i. get_or t i 0) f m (λ i lt. h i (omega arith))

found_entries : (t : List ℕ) (f : ℕ → ℕ) (n : ℕ) → Entries t f n →
    (k v l : ℕ) → v < n → Found (λ i. get_or t i 0) k v l → Found f k v l
found_entries t f n h k v l lt F = record {
  at = omega (arith, F.at, entries_sum t f n h v (omega arith));
  within = omega (arith, F.within, h v lt);
}

bound-take : (w : List ℕ) (i : ℕ) → bound (take i w) ≤ bound w
bound-take w i = omega (arith, bound_append (take i w) (drop i w), ap bound (take-append-drop i w))

-- adding up the place of the first n symbols of w
module _ (w : List ℕ) (n : ℕ) (long : length w ≡ 16) (h : is_height_window n w ≡ true) where
  few : n ≤ 16
  few = (of_height_window w n h).1

  size : length (take n w) ≡ n
  size = omega (arith, few, length-take n w)

  low : bound (take n w) ≤ n
  low = omega (arith, size, height_bound (take n w) (of_height_window w n h).2)

  pub prefix_low : (i : ℕ) → i ≤ n → bound (take i w) ≤ n
  prefix_low i l = omega (arith, low, bound-take (take n w) i, ap bound (take-take i n w l))

  pub symbol_low : (i : ℕ) → i < n → get_or w i 0 < n
  symbol_low i l = omega (arith, low, size, bound_in (get_or_in (take n w) i 0 (omega (arith, size))), get_or-take n w i 0 l)

  -- what the symbol at i adds
  pub placed_at : (i : ℕ) → i < n → (t : List ℕ) → Entries t (completions_with n (take i w)) n →
      sum (λ v. get_or t v 0) (get_or w i 0) ≡ place_at (take n w) i
  unfolding place_at
  placed_at i l t e = entries_sum t (completions_with n (take i w)) n e (get_or w i 0) (omega (arith, symbol_low i l))
      ∙ rw (size, take-take i n w (omega arith), get_or-take n w i 0 l)

  pub placed_fits : (i : ℕ) → i ≤ n → sum (place_at (take n w)) i ≤ most
  placed_fits i l = omega (
    arith,
    place-upto (take n w) (omega (arith, low, size)) i (omega (arith, size)),
    (heights-numbered n).place-below (take n w) (size, (of_height_window w n h).2),
    a≤most n (omega (arith, few)),
  )

  pub placed-all : sum (place_at (take n w)) n ≡ place (take n w)
  placed-all = sym (place-sum (take n w) (omega (arith, low, size)) ∙ ap (sum (place_at (take n w))) size)

-- finding the window at the place k, of which the array v holds the first i symbols
module _ (n k : ℕ) (few : n ≤ 16) (h : k < a n) where
  at_place : HeightWindow n (window_at n k)
  at_place = (heights-numbered n).item_in k h

  module _ (v : List ℕ) (i : ℕ) (l : i ≤ n) (e : v ≡ padded (take i (window_at n k))) where
    found_prefix : take i v ≡ take i (window_at n k)
    found_prefix = ap (take i) e ∙ take-padded (take i (window_at n k)) i (omega (arith, length-take i (window_at n k), at_place.0))

    pub found_low : bound (take i v) ≤ n
    found_low = rw found_prefix (omega (arith, bound-take (window_at n k) i, height_bound (window_at n k) at_place.1, at_place.0))

    -- what is left lies within the counts of the next symbols
    pub found_within : (m : ℕ) → i < n → Reached n (window_at n k) i m → (t : List ℕ) → Entries t (completions_with n (take i v)) n →
        m < sum (λ u. get_or t u 0) n
    found_within m lt R t E =
        let p = take i (window_at n k) in
        let low = rw found_prefix at found_low in
        let len = length-take i (window_at n k) in
        omega (
          arith,
          R.left,
          completions_suc n p low (omega (arith, at_place.0)),
          entries_sum t (completions_with n p) n (rw found_prefix at E) n (omega arith),
        )

    -- the symbol found there is the window's
    pub found_next : (m : ℕ) → i < n → Reached n (window_at n k) i m → (t : List ℕ) → Entries t (completions_with n (take i v)) n →
        (x l : ℕ) → x < n → Found (λ u. get_or t u 0) m x l →
        (set v i x ≡ padded (take (i + 1) (window_at n k))) × Reached n (window_at n k) (i + 1) l
    found_next m lt R t E x l low F =
        let W = window_at n k in
        let G = found_entries t (completions_with n (take i W)) n (rw found_prefix at E) m x l low F in
        let (same, next) = reached_next n W at_place i m x l lt R G in
        (padded-next W v i x (omega (arith, at_place.0)) (omega (arith, at_place.0)) e same, next)
