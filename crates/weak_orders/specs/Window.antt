-- Windows as lists of symbols, oldest first, and the two forms of a weak order (document 01, "Windows"; 002, section 1.1).
use Rattle.std.specs.Prelude.{Bool, true, cond, ◌&&◌, List, [], ◌∷◌, ◌++◌, map, ℕ, zero, suc, max, ◌-◌, ltb, leb, eqb, length, take, drop, replicate}

-- every element of the list passes the test
unfoldable pub all : {A : Type 0} → (A → Bool) → List A → Bool
all p [] = true
all p (x ∷ xs) = p x && all p xs

-- how many elements of the list pass the test
unfoldable pub count : {A : Type 0} → (A → Bool) → List A → ℕ
count p [] = 0
count p (x ∷ xs) = cond (p x) (suc (count p xs)) (count p xs)

-- the index of the first element that passes the test, counted from 0; the length where none does
unfoldable pub first_index : {A : Type 0} → (A → Bool) → List A → ℕ
first_index p [] = 0
first_index p (x ∷ xs) = cond (p x) 0 (suc (first_index p xs))

-- the numbers below n, in order
unfoldable pub range : ℕ → List ℕ
range zero = []
range (suc n) = range n ++ (n ∷ [])

-- f applied k times
unfoldable pub iter : {A : Type 0} → (A → A) → ℕ → A → A
iter f zero x = x
iter f (suc k) x = f (iter f k x)

-- document 01's num(v): how often v occurs in w
unfoldable pub num : List ℕ → ℕ → ℕ
unfolding count
num w v = count (eqb v) w

unfoldable pub occurs : List ℕ → ℕ → Bool
unfolding num
occurs w v = ltb 0 (num w v)

-- how many different symbols w holds: those that do not occur again behind
unfoldable pub different : List ℕ → ℕ
unfolding occurs
different [] = 0
different (x ∷ w) = cond (occurs w x) (different w) (suc (different w))

-- 1 more than the largest symbol of w; 0 where w is empty
unfoldable pub bound : List ℕ → ℕ
bound [] = 0
bound (x ∷ w) = max (suc x) (bound w)

-- in how many places w holds a symbol smaller than v
unfoldable pub below : List ℕ → ℕ → ℕ
unfolding count
below w v = count (λ x. ltb x v) w

-- document 01's height: how many different symbols smaller than v the window holds
unfoldable pub height : List ℕ → ℕ → ℕ
unfolding count range occurs
height w v = count (occurs w) (range v)

-- document 01's rank form: each symbol is 1 plus the number of places that hold a smaller one
unfoldable pub is_rank : List ℕ → Bool
unfolding all below
is_rank w = all (λ x. eqb x (suc (below w x))) w

-- document 01's height form: the symbols present are 0 to some h, so with each symbol every smaller number is present
unfoldable pub is_height : List ℕ → Bool
unfolding all range occurs
is_height w = all (λ x. all (occurs w) (range x)) w

-- the heights of the places, and the ranks
unfoldable pub heights : List ℕ → List ℕ
unfolding height
heights w = map (height w) w

unfoldable pub ranks : List ℕ → List ℕ
unfolding below
ranks w = map (λ x. suc (below w x)) w

-- document 01's n: a window has 1 to 16 symbols
unfoldable pub is_length : ℕ → Bool
is_length n = leb 1 n && leb n 16

-- a window in an array of 16: its symbols, and zeros behind
unfoldable pub padded : List ℕ → List ℕ
padded w = w ++ replicate (16 - length w) 0

-- a slice as a window of n: its bytes, and zeros behind; where it is not n long 255s, which are in neither form
unfoldable pub loaded : ℕ → List ℕ → List ℕ
unfolding padded
loaded n s = cond (eqb (length s) n) (padded (take 16 s)) (replicate 16 255)

-- the oldest symbol is dropped and s appended
unfoldable pub shifted : List ℕ → ℕ → List ℕ
shifted w s = drop 1 w ++ (s ∷ [])
