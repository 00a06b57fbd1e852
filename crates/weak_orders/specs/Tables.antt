-- What the functions on windows are handed and give: tables of counts, and sets of symbols as bits.
use Rattle.std.specs.Prelude.{Bool, ◌&&◌, ◌||◌, List, [], ◌∷◌, ◌++◌, map, ◌≡◌, ℕ, zero, suc, min, ◌+◌, ◌^◌, ◌≤◌, ltb, eqb, get_or}
use Rattle.std.specs.Int.Bits.{bit_or}
use Rattle.weak_orders.specs.Window.{all, count, range, num, is_length}

-- how often each symbol up to 16 occurs in l, and behind it how many places hold a larger one
unfoldable pub tally : List ℕ → List ℕ
unfolding range num count
tally l = map (num l) (range 17) ++ (count (ltb 16) l ∷ [])

-- the table gives document 01's num(v) for every v up to 16, so for each v from 1 to n (document 02, Paper 3)
abbrev pub GivesNum : List ℕ → List ℕ → Type 0
GivesNum l t = (v : ℕ) → v ≤ 16 → get_or t v 0 ≡ num l v

-- how many places hold a symbol below v, by a table
unfoldable pub upto : List ℕ → ℕ → ℕ
upto t zero = 0
upto t (suc v) = upto t v + get_or t v 0

-- the table is that of a weak order of n in rank form: each symbol up to n that it has is one more than the number of places below it,
-- and there are n such places
unfoldable pub is_rank_table : ℕ → List ℕ → Bool
unfolding is_length all range upto
is_rank_table n t =
    is_length n && (eqb (upto t (suc n)) n && all (λ v. eqb (get_or t v 0) 0 || eqb v (suc (upto t v))) (range (suc n)))

-- a symbol as a bit, all from 31 on the same, and the symbols of a list as bits
unfoldable pub bit_of : ℕ → ℕ
bit_of v = 2 ^ min v 31

unfoldable pub bits_of : List ℕ → ℕ
unfolding bit_of
bits_of [] = 0
bits_of (x ∷ l) = bit_or (bit_of x) (bits_of l)
