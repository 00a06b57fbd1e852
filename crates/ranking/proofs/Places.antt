-- Places number the height windows, and the rank windows with them; a place is a sum over the window's prefixes. Assumes nothing.
use mathlib.Core.Bool.{Bool, ◌&&◌, and-true, and-false}
use mathlib.Core.Path.{◌≡◌, refl, sym, ap, ◌∙◌}
use mathlib.Core.List.{List, [], ◌∷◌, ◌++◌}
use Prim.Native.Nat.{ℕ, zero, suc, ◌+◌, ◌-◌, ◌≤◌, ◌<◌}
use native.Mathlib.Omega.{arith}
use lib.ListN.{length, get_or, take, drop, length-append}
use lib.Seq.{append_snoc, take-suc, drop-cons, drop-length}
use Rattle.weak_orders.specs.Window.{count, is_height, heights, ranks, bound}
use Rattle.weak_orders.proofs.Conversions.{ranks-is_rank, heights-is_height, length-ranks, length-heights, ranks-heights, heights-ranks}
use Rattle.weak_orders.proofs.HeightForm.{height_bound}
use Rattle.weak_orders.proofs.Lists.{count_cong, count_none}
use Rattle.weak_orders.proofs.Symbols.{bound_back}
use Rattle.weak_orders.proofs.Tests.{◌∈◌}
use Rattle.rotations.specs.Order.{lex_lt}
use Rattle.rotations.proofs.Orders.{lex_lt_nil, lex_lt_less, lex_lt_greater, lex_lt_equal, lex_lt_irreflexive, lex_lt_asymmetric}
use Rattle.ranking.specs.Counts.{sum, a}
use Rattle.ranking.specs.Dictionary.{strings, height_windows, completions, place, window_at}
use Rattle.ranking.specs.Numbering.{Numbering, HeightWindow, RankWindow}
use Rattle.ranking.proofs.Completions.{in_strings, of_strings, count-strings, fillings, endings, height_windows-length}
use Rattle.ranking.proofs.Listing.{in_select, of_select, count-select}
use Rattle.ranking.proofs.Numberings.{Matching, numbering_through}
use Rattle.ranking.proofs.Prefixes.{sum_endings}
use Rattle.ranking.proofs.Sorted.{sorted_numbering}
use Rattle.ranking.proofs.Strings.{height_windows_sorted}
use Rattle.ranking.proofs.Sums.{sum_zero, sum_suc, sum_cong, sum_past}

pub in_height_windows : (n : ℕ) (w : List ℕ) → HeightWindow n w → w ∈ height_windows n
unfolding height_windows
in_height_windows n w (e, h) = in_select is_height (rw e at (in_strings w n (omega (arith, height_bound w h)))) h

pub of_height_windows : (n : ℕ) {w : List ℕ} → w ∈ height_windows n → HeightWindow n w
unfolding height_windows
of_height_windows n m = let (i, h) = of_select is_height (strings n n) m in ((of_strings n n i).0, h)

place_in : (n : ℕ) (w : List ℕ) → length w ≡ n → place w ≡ count (λ u. lex_lt u w) (height_windows n)
unfolding place
place_in n w e = ap (λ m. count (λ u. lex_lt u w) (height_windows m)) e

-- the windows that stand in the list of height windows, and their places there
pub heights-numbered : (n : ℕ) → Numbering (HeightWindow n) (a n) place (window_at n)
unfolding window_at
heights-numbered n =
    let S = sorted_numbering lex_lt lex_lt_irreflexive lex_lt_asymmetric [] (height_windows n) (height_windows_sorted n) in
    let N = height_windows-length n in
    record {
      place-below = λ w p. omega (arith, S.place-below w (in_height_windows n w p), place_in n w p.0);
      item_place = λ w p. ap (window_at n) (place_in n w p.0) ∙ S.item_place w (in_height_windows n w p);
      item_in = λ i l. of_height_windows n (S.item_in i (omega arith));
      place_item = λ i l. place_in n (window_at n i) (of_height_windows n (S.item_in i (omega arith))).0 ∙ S.place_item i (omega arith);
    }

-- rank windows match their heights
pub ranks_match : (n : ℕ) → Matching (HeightWindow n) (RankWindow n) heights ranks
ranks_match n = record {
  to_in = λ w p. (length-heights w ∙ p.0, heights-is_height w);
  from_in = λ w p. (length-ranks w ∙ p.0, ranks-is_rank w);
  from_to = λ w p. ranks-heights w p.1;
  to_from = λ w p. heights-ranks w p.1;
}

-- so a rank window has the place of its heights
pub ranks-numbered : (n : ℕ) → Numbering (RankWindow n) (a n) (λ w. place (heights w)) (λ i. ranks (window_at n i))
ranks-numbered n = numbering_through (heights-numbered n) (ranks_match n)

-- ---- the place by prefixes

-- the windows that begin with p and go on before s: by a smaller symbol now, or by the same one and then before
unfoldable pub place_from : ℕ → List ℕ → List ℕ → ℕ
unfolding sum completions
place_from n p [] = 0
place_from n p (x ∷ s) = sum (λ v. completions n (p ++ (v ∷ []))) x + place_from n (p ++ (x ∷ [])) s

place_from_count : (n : ℕ) (p s : List ℕ) → bound p ≤ n → bound s ≤ n → length p + length s ≡ n →
    place_from n p s ≡ count (λ t. is_height (p ++ t) && lex_lt t s) (strings (length s) n)
unfolding place_from endings fillings bound
place_from_count n p [] h h' e = sym (count_none (λ t. is_height (p ++ t) && lex_lt t []) (strings 0 n) (λ t m. rw (lex_lt_nil t, and-false)))
place_from_count n p (x ∷ s) h h' e =
    let r = length s in
    let q : List ℕ → Bool = λ t. is_height (p ++ t) && lex_lt t (x ∷ s) in
    let g : ℕ → ℕ = λ v. count (λ t. q (v ∷ t)) (strings r n) in
    let all : n ≡ suc x + (n - suc x) = omega arith in
    let less : (v : ℕ) → v < x → g v ≡ endings n (p ++ (v ∷ [])) r = λ v l.
    count_cong (λ t. q (v ∷ t)) (λ t. is_height (p ++ (v ∷ []) ++ t)) (strings r n)
    (λ t m. rw (lex_lt_less v x t s l, and-true, append_snoc)) in
    let same : g x ≡ place_from n (p ++ (x ∷ [])) s =
    count_cong (λ t. q (x ∷ t)) (λ t. is_height (p ++ (x ∷ []) ++ t) && lex_lt t s) (strings r n)
    (λ t m. rw (lex_lt_equal x x t s refl, append_snoc))
    ∙ sym (place_from_count n (p ++ (x ∷ [])) s (omega (arith, bound_back p x)) (omega arith) (omega (arith, length-append p (x ∷ [])))) in
    let greater = sum_past g (suc x) (n - suc x) (λ v a b.
    count_none (λ t. q (v ∷ t)) (strings r n) (λ t m. rw (lex_lt_greater v x t s a, and-false))) in
    omega (
      arith,
      count-strings q r n,
      ap (sum g) all,
      greater,
      sum_suc g x,
      same,
      sum_cong g (λ v. endings n (p ++ (v ∷ [])) r) x less,
      sum_endings n p r h e x (omega arith),
    )

pub place_by_prefixes : (w : List ℕ) → bound w ≤ length w → place w ≡ place_from (length w) [] w
unfolding place height_windows bound
place_by_prefixes w h = count-select is_height (λ u. lex_lt u w) (strings (length w) (length w))
    ∙ sym (place_from_count (length w) [] w (omega arith) h (omega arith))

-- what the symbol at the index i adds to the place: the completions of the symbols before it with a smaller one behind
unfoldable pub place_at : List ℕ → ℕ → ℕ
unfolding sum completions
place_at w i = sum (λ v. completions (length w) (take i w ++ (v ∷ []))) (get_or w i 0)

place_from_next : (w : List ℕ) (i : ℕ) → i < length w →
    place_from (length w) (take i w) (drop i w) ≡ place_at w i + place_from (length w) (take (suc i) w) (drop (suc i) w)
unfolding place_from place_at
place_from_next w i l =
    let n = length w in
    ap (place_from n (take i w)) (drop-cons w i 0 l) ∙ rw (take-suc w i 0 l)

module _ (w : List ℕ) (h : bound w ≤ length w) where
  -- a loop over the symbols: what it has added up after i of them, and what is to come
  pub place-upto : (i : ℕ) → i ≤ length w → place w ≡ sum (place_at w) i + place_from (length w) (take i w) (drop i w)
  place-upto zero l = omega (arith, place_by_prefixes w h, sum_zero (place_at w))
  place-upto (suc i) l = omega (arith, place-upto i (omega arith), place_from_next w i l, sum_suc (place_at w) i)

  pub place-sum : place w ≡ sum (place_at w) (length w)
  unfolding place_from
  place-sum = omega (arith, place-upto (length w) (omega arith), ap (place_from (length w) (take (length w) w)) (drop-length w))
