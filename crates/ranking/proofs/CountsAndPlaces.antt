-- The claims of specs/Claims.antt. Assumes nothing.
use mathlib.Core.Bool.{Bool, true}
use mathlib.Core.List.Memᴰ
use mathlib.Core.List.{List, [], ◌∷◌, map}
use mathlib.Core.Path.{◌≡◌, refl, sym, ap, ◌∙◌}
use Prim.Native.Nat.{ℕ, suc, ◌<◌}
use native.Mathlib.Omega.{arith}
use native.Mathlib.Decide.{dec_lt}
use lib.Dec.{ltb, eqb}
use borrow.Author.Tests.{eqb-true, eq-eqb, lt-ltb, le-ltb}
use Rattle.weak_orders.specs.Window.{count, occurs, different, below, ranks}
use Rattle.weak_orders.proofs.Lists.{count_map, count_cong}
use Rattle.weak_orders.proofs.Symbols.{says_occurs, occurs_in, below_strict}
use Rattle.weak_orders.proofs.Tests.{◌∈◌, here, there, says_as, same_test}
use Rattle.rotations.specs.Order.{lex_lt}
use Rattle.rotations.proofs.Orders.{lex_lt_irreflexive, lex_lt_asymmetric}
use Rattle.ranking.specs.Claims.{CountsAndPlaces}
use Rattle.ranking.specs.Counts.{L, a}
use Rattle.ranking.specs.Dictionary.{height_windows, window_at}
use Rattle.ranking.specs.Numbering.{Exactly, HeightWindow, RankWindow}
use Rattle.ranking.proofs.Completions.{height_windows-different, height_windows-length}
use Rattle.ranking.proofs.Numberings.{exactly_as}
use Rattle.ranking.proofs.Places.{heights-numbered, ranks-numbered}
use Rattle.ranking.proofs.Prefixes.{completions-ways}
use Rattle.ranking.proofs.Selected.{heights_selected, ranks_selected}
use Rattle.ranking.proofs.Sorted.{sorted_at}
use Rattle.ranking.proofs.Strings.{height_windows_sorted}

-- ---- ranks keep the number of different symbols

-- f gives the symbols of w different values
abbrev Injective : (ℕ → ℕ) → List ℕ → Type 0
Injective f w = (x y : ℕ) → x ∈ w → y ∈ w → f x ≡ f y → x ≡ y

different-map : (f : ℕ → ℕ) (w : List ℕ) → Injective f w → different (map f w) ≡ different w
unfolding different
different-map f [] h = refl
different-map f (x ∷ w) h =
    let same : occurs (map f w) (f x) ≡ occurs w x = same_test
    (says_as (says_occurs (map f w) (f x))
    (λ m. let (y, i, e) = Memᴰ.of_map f w m in Memᴰ.cast (sym (h y x (there i) here e)) i)
    (λ m. Memᴰ.map f m))
    (says_occurs w x) in
    rw (same, different-map f w (λ y z i j. h y z (there i) (there j)))

different-ranks : (w : List ℕ) → different (ranks w) ≡ different w
unfolding ranks
different-ranks w = different-map (λ x. suc (below w x)) w (λ x y i j e.
    let lt : ¬ (x < y) = λ l. omega (arith, below_strict w x y (occurs_in i) l) in
    let gt : ¬ (y < x) = λ l. omega (arith, below_strict w y x (occurs_in j) l) in
    omega arith)

-- ---- the weak orders of n with k different symbols

-- the test for k different symbols, and what it says
as_said : {P : List ℕ → Type 0} {N : ℕ} (k : ℕ) → Exactly N (λ w. P w × (eqb (different w) k ≡ true)) → Exactly N (λ w. P w × (different w ≡ k))
as_said k E = exactly_as E (λ w. (λ (h, e). (h, eqb-true (different w) k e), λ (h, e). (h, eq-eqb (different w) k e)))

heights_with : (n k : ℕ) → Exactly (L n k) (λ w. HeightWindow n w × (different w ≡ k))
heights_with n k = as_said k (rw (height_windows-different n k) at (heights_selected (λ w. eqb (different w) k) n))

ranks_with : (n k : ℕ) → Exactly (L n k) (λ w. RankWindow n w × (different w ≡ k))
ranks_with n k =
    let p : List ℕ → Bool = λ w. eqb (different w) k in
    let N : count p (map ranks (height_windows n)) ≡ L n k =
    count_map p ranks (height_windows n)
    ∙ count_cong (λ w. p (ranks w)) p (height_windows n) (λ w m. ap (λ d. eqb d k) (different-ranks w))
    ∙ height_windows-different n k in
    as_said k (rw N at (ranks_selected p n))

-- ---- the places are in dictionary order

in_order : (n i j : ℕ) → i < a n → j < a n → lex_lt (window_at n i) (window_at n j) ≡ ltb i j
unfolding window_at
in_order n i j l m =
    let N = height_windows-length n in
    let up = sorted_at [] (height_windows_sorted n) in
    let w = window_at n in
    elim (dec_lt i j) [
      | yes lt ↦ up i j lt (omega arith) ∙ sym (lt-ltb i j lt)
      | no ge ↦ rw (le-ltb i j (omega arith)) (elim (dec_lt j i) [
        | yes lt ↦ lex_lt_asymmetric (w j) (w i) (up j i lt (omega arith))
        | no ge' ↦ let e : i ≡ j = omega arith in ap (λ i. lex_lt (w i) (w j)) e ∙ lex_lt_irreflexive (w j)
      ])
    ]

-- the claims
pub counts_and_places : CountsAndPlaces
counts_and_places = record {
  completions-counted = completions-ways;
  heights_with = heights_with;
  ranks_with = ranks_with;
  heights-all = λ n. (_, _, heights-numbered n);
  ranks-all = λ n. (_, _, ranks-numbered n);
  places = heights-numbered;
  in_order = in_order;
}
