-- The strings of the dictionary stand in dictionary order. Assumes nothing.
use mathlib.Core.Path.{refl, ◌∙◌}
use mathlib.Core.List.Memᴰ
use mathlib.Core.List.{List, ◌∷◌, map, flat_map}
use Prim.Native.Nat.{ℕ, zero, suc}
use Rattle.weak_orders.specs.Window.{range, is_height}
use Rattle.weak_orders.proofs.Lists.{of_range}
use Rattle.rotations.specs.Order.{lex_lt}
use Rattle.rotations.proofs.Orders.{lex_lt_less, lex_lt_equal}
use Rattle.ranking.specs.Dictionary.{strings, height_windows}
use Rattle.ranking.proofs.Listing.{of_flat_map, flat_map-range}
use Rattle.ranking.proofs.Sorted.{Sorted, none, one, sorted_append, sorted_select, sorted_map}

-- the strings of m + 1 symbols that begin with a symbol below j
strings_from : (m n j : ℕ) → Sorted lex_lt (strings m n) → Sorted lex_lt (flat_map (λ v. map (λ s. v ∷ s) (strings m n)) (range j))
unfolding flat_map range
strings_from m n zero s = none
strings_from m n (suc j) s = let f : ℕ → List (List ℕ) = λ v. map (λ s. v ∷ s) (strings m n) in
    rw (flat_map-range f j) (sorted_append (strings_from m n j s) (sorted_map (λ s. j ∷ s) (λ u v h. lex_lt_equal j j u v refl ∙ h) s) (λ x y a b.
    let (v, i, c) = of_flat_map f (range j) a in
    let (s, k, e) = Memᴰ.of_map (λ s. v ∷ s) (strings m n) c in
    let (t, k', e') = Memᴰ.of_map (λ s. j ∷ s) (strings m n) b in
    cc (lex_lt_less v j s t (of_range j i))))

pub strings_sorted : (m n : ℕ) → Sorted lex_lt (strings m n)
unfolding strings
strings_sorted zero n = one (λ y m. absurd (Memᴰ.not-nil m)) none
strings_sorted (suc m) n = strings_from m n n (strings_sorted m n)

pub height_windows_sorted : (n : ℕ) → Sorted lex_lt (height_windows n)
unfolding height_windows
height_windows_sorted n = sorted_select is_height (strings_sorted n n)
