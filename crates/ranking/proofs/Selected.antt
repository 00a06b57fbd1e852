-- The weak orders of n that pass a test: a count over the list of all is their number, in either form. Assumes nothing.
use mathlib.Core.Bool.{Bool, true, false}
use mathlib.Core.List.{List, [], map}
use mathlib.Core.Path.{◌≡◌, sym, ap, ◌∙◌}
use Prim.Native.Nat.{ℕ}
use Rattle.weak_orders.specs.Window.{count, heights, ranks}
use Rattle.weak_orders.proofs.Lists.{count_map}
use Rattle.weak_orders.proofs.Tests.{◌∈◌}
use Rattle.rotations.specs.Order.{lex_lt}
use Rattle.rotations.proofs.Orders.{lex_lt_irreflexive, lex_lt_asymmetric}
use Rattle.ranking.specs.Dictionary.{select, height_windows}
use Rattle.ranking.specs.Numbering.{Exactly, HeightWindow, RankWindow}
use Rattle.ranking.proofs.Listing.{in_select, of_select, length-select}
use Rattle.ranking.proofs.Numberings.{Matching, numbering_through, exactly_as}
use Rattle.ranking.proofs.Places.{in_height_windows, of_height_windows, ranks_match}
use Rattle.ranking.proofs.Sorted.{Sorted, sorted_select, sorted_numbering}
use Rattle.ranking.proofs.Strings.{height_windows_sorted}

-- the elements of any sorted list that pass a test
pub sorted_selected : {A : Type 0} (lt : A → A → Bool) → ((x : A) → lt x x ≡ false) → ((x y : A) → lt x y ≡ true → lt y x ≡ false) →
    (d : A) (q : A → Bool) (xs : List A) → Sorted lt xs → Exactly (count q xs) (λ x. (x ∈ xs) × (q x ≡ true))
sorted_selected lt irreflexive asymmetric d q xs s =
    let S = sorted_numbering lt irreflexive asymmetric d (select q xs) (sorted_select q s) in
    exactly_as (_, _, rw (length-select q xs) at S) (λ x. (of_select q xs, λ (m, e). in_select q m e))

pub heights_selected : (q : List ℕ → Bool) (n : ℕ) → Exactly (count q (height_windows n)) (λ w. HeightWindow n w × (q w ≡ true))
heights_selected q n = exactly_as
    (sorted_selected lex_lt lex_lt_irreflexive lex_lt_asymmetric [] q (height_windows n) (height_windows_sorted n))
    (λ w. (λ (m, e). (of_height_windows n m, e), λ (h, e). (in_height_windows n w h, e)))

pub ranks_selected : (q : List ℕ → Bool) (n : ℕ) → Exactly (count q (map ranks (height_windows n))) (λ w. RankWindow n w × (q w ≡ true))
ranks_selected q n =
    let (place, item, H) = heights_selected (λ w. q (ranks w)) n in
    let R = ranks_match n in
    let M : Matching (λ w. HeightWindow n w × (q (ranks w) ≡ true)) (λ w. RankWindow n w × (q w ≡ true)) heights ranks = record {
      to_in = λ w (h, e). (R.to_in w h, ap q (R.from_to w h) ∙ e);
      from_in = λ w (h, e). (R.from_in w h, e);
      from_to = λ w (h, e). R.from_to w h;
      to_from = λ w (h, e). R.to_from w h;
    } in
    (_, _, rw (sym (count_map q ranks (height_windows n))) at (numbering_through H M))
