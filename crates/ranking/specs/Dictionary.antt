-- All height windows of n in dictionary order, and places in it (document 01, "Place").
use Rattle.std.specs.Prelude.{Bool, true, false, cond, ◌&&◌, ℕ, zero, suc, eqb, length, get_or}
use mathlib.Core.List.{List, [], ◌∷◌, ◌++◌, map, flat_map}
use Rattle.weak_orders.specs.Window.{count, range, is_height}
use Rattle.rotations.specs.Order.{lex_lt}

-- the elements that pass the test, in order
unfoldable pub select : {A : Type 0} → (A → Bool) → List A → List A
select p [] = []
select p (x ∷ xs) = cond (p x) (x ∷ select p xs) (select p xs)

-- every string of m symbols below k, in dictionary order
unfoldable pub strings : ℕ → ℕ → List (List ℕ)
unfolding range flat_map
strings zero k = [] ∷ []
strings (suc m) k = flat_map (λ v. map (λ s. v ∷ s) (strings m k)) (range k)

-- the height windows of n; their symbols are below n
unfoldable pub height_windows : ℕ → List (List ℕ)
unfolding select is_height strings
height_windows n = select is_height (strings n n)

-- the place of w: how many height windows stand before it
unfoldable pub place : List ℕ → ℕ
unfolding count lex_lt height_windows
place w = count (λ u. lex_lt u w) (height_windows (length w))

-- the height window of n at the place i
unfoldable pub window_at : ℕ → ℕ → List ℕ
unfolding height_windows
window_at n i = get_or (height_windows n) i []

-- w begins with p
unfoldable pub begins : List ℕ → List ℕ → Bool
begins [] w = true
begins (x ∷ p) [] = false
begins (x ∷ p) (y ∷ w) = eqb x y && begins p w

-- document 01's completions of a prefix, counted: the height windows of n that begin with p
unfoldable pub completions : ℕ → List ℕ → ℕ
unfolding count begins height_windows
completions n p = count (begins p) (height_windows n)

-- those in which v comes next
abbrev pub completions_with : ℕ → List ℕ → ℕ → ℕ
completions_with n p v = completions n (p ++ (v ∷ []))
