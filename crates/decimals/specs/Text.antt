-- Numbers as text (document 01, "The printed round"): decimals without leading zeros, a minus before a number below zero, lists with commas.
use Rattle.std.specs.Prelude.{cond, List, [], ◌∷◌, ◌++◌, ℕ, zero, suc, ◌+◌, ◌/◌, ◌%◌, ltb, ℤ, pos, negsuc}
use Prim.Native.Char.{code}

-- the digits of n, of which there are at most k
unfoldable pub digits : ℕ → ℕ → List ℕ
digits zero n = []
digits (suc k) n = cond (ltb n 10) ((code "0" + n) ∷ []) (digits k (n / 10) ++ ((code "0" + n % 10) ∷ []))

-- the decimal of a number; n has at most n + 1 digits
unfoldable pub decimal : ℕ → List ℕ
decimal n = digits (suc n) n

-- a minus before a number below zero
unfoldable pub signed : ℤ → List ℕ
signed (pos n) = decimal n
signed (negsuc n) = code "-" ∷ decimal (suc n)

-- decimals joined by single commas
unfoldable pub commaed : List ℕ → List ℕ
commaed [] = []
commaed (x ∷ l) = code "," ∷ (decimal x ++ commaed l)

unfoldable pub joined : List ℕ → List ℕ
joined [] = []
joined (x ∷ l) = decimal x ++ commaed l
