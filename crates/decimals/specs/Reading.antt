-- Readers of text (document 01, "The printed round"). A reader looks at the start of a text only, and says how many bytes it took.
use Rattle.std.specs.Prelude.{Bool, false, cond, not, ◌&&◌, List, [], ◌∷◌, ℕ, zero, suc, ◌+◌, ◌-◌, ◌*◌, ◌≤◌, leb, ltb, eqb, ℤ, pos, negsuc, length, take, drop}
use Prim.Native.Char.{code}
use Rattle.frames.specs.Fields.{same_bytes}

-- a value and how many bytes it takes, or nothing
pub data Found (A : Type 0) : Type 0 where
  found : A → ℕ → Found A
  missing : Found A

abbrev pub Reader : Type 0 → Type 0
Reader A = List ℕ → Found A

-- what was found k bytes further on, as another value
unfoldable pub further : {A B : Type 0} → ℕ → (A → B) → Found A → Found B
further k f (found x m) = found (f x) (k + m)
further k f missing = missing

-- one thing, and another right after it
unfoldable pub next : {A B : Type 0} → Found A → Reader B → List ℕ → Found (A × B)
next (found x k) q s = further k (λ y. (x, y)) (q (drop k s))
next missing q s = missing

unfoldable pub both : {A B : Type 0} → Reader A → Reader B → Reader (A × B)
both p q s = next (p s) q s

-- the text s begins with the text t
unfoldable pub begins_with : List ℕ → List ℕ → Bool
begins_with t s = same_bytes (take (length t) s) t

-- the text t, and one thing right after it, as another value
unfoldable pub behind : {A B : Type 0} → List ℕ → (A → B) → Reader A → Reader B
behind t f p s = cond (begins_with t s) (further (length t) f (p (drop (length t) s))) missing

-- the text starts with the byte b
unfoldable pub starts_with : ℕ → List ℕ → Bool
starts_with b [] = false
starts_with b (x ∷ s) = eqb x b

-- one thing, and the byte b right after it, which counts as taken
unfoldable pub closed : {A : Type 0} → ℕ → Found A → List ℕ → Found A
closed b (found x k) s = cond (starts_with b (drop k s)) (found x (suc k)) missing
closed b missing s = missing

unfoldable pub ended : {A : Type 0} → Reader A → ℕ → Reader A
ended p b s = closed b (p s) s

-- how many digits the text starts with
abbrev pub is_digit : ℕ → Bool
is_digit b = leb (code "0") b && leb b (code "9")

unfoldable pub run : List ℕ → ℕ
run [] = 0
run (b ∷ s) = cond (is_digit b) (suc (run s)) 0

-- nothing but digits
pub data Digits : List ℕ → Type 0 where
  none : Digits []
  more : {b : ℕ} {s : List ℕ} → code "0" ≤ b → b ≤ code "9" → Digits s → Digits (b ∷ s)

-- the number that digits stand for, read behind those of v
unfoldable pub value : ℕ → List ℕ → ℕ
value v [] = v
value v (b ∷ s) = value (v * 10 + (b - code "0")) s

-- one to six digits; before others there is no zero
unfoldable pub well_written : ℕ → List ℕ → Bool
well_written k s = leb 1 k && (leb k 6 && not (ltb 1 k && starts_with (code "0") s))

-- a decimal: all the digits that the text starts with
unfoldable pub number : Reader ℕ
number s = cond (well_written (run s) s) (found (value 0 (take (run s) s)) (run s)) missing

-- the number of a decimal behind a minus, which is not zero, and without one
unfoldable pub negative : Found ℕ → Found ℤ
negative (found zero k) = missing
negative (found (suc v) k) = found (negsuc v) (suc k)
negative missing = missing

unfoldable pub positive : Found ℕ → Found ℤ
positive (found v k) = found (pos v) k
positive missing = missing

unfoldable pub signed_number : Reader ℤ
signed_number s = cond (starts_with (code "-") s) (negative (number (drop 1 s))) (positive (number s))

-- one decimal, or with a comma after it more of them
unfoldable pub comma_then : Found ℕ → Reader (List ℕ) → Reader (List ℕ)
comma_then (found v k) q s =
    cond (starts_with (code ",") (drop k s)) (further (suc k) (λ l. v ∷ l) (q (drop (suc k) s))) (found (v ∷ []) k)
comma_then missing q s = missing

-- decimals joined by single commas, at least one and at most k
unfoldable pub numbers : ℕ → Reader (List ℕ)
numbers zero s = missing
numbers (suc k) s = comma_then (number s) (numbers k) s
