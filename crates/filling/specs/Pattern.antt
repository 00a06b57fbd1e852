-- Patterns: windows in height form with open places, and the weak orders that agree with them (document 02, Paper 1).
use Rattle.std.specs.Prelude.{Bool, true, false, not, ◌&&◌, ◌||◌, List, [], ◌∷◌, ◌≡◌, ℕ, ◌-◌, ltb, eqb, length}
use Rattle.weak_orders.specs.Tables.{tally}
use Rattle.weak_orders.specs.Window.{all, count, different, bound}
use Rattle.ranking.specs.Dictionary.{select, height_windows}
use Rattle.ranking.specs.Numbering.{HeightWindow}

-- "255 for open"
abbrev pub is_open : ℕ → Bool
is_open b = eqb b 255

-- a byte of a pattern of n: open, or a height below n
unfoldable pub is_allowed : ℕ → ℕ → Bool
is_allowed n b = is_open b || ltb b n

-- document 02's pattern: n such bytes
unfoldable pub is_pattern : ℕ → List ℕ → Bool
unfolding all is_allowed
is_pattern n p = eqb (length p) n && all (is_allowed n) p

-- w is as long as p, and has the byte of p wherever that is not open
unfoldable pub agrees : List ℕ → List ℕ → Bool
agrees [] [] = true
agrees [] (x ∷ w) = false
agrees (b ∷ p) [] = false
agrees (b ∷ p) (x ∷ w) = (is_open b || eqb b x) && agrees p w

-- w is a weak order of n in height form that agrees with p
pub record Filling (n : ℕ) (p w : List ℕ) : Type 0 where
  pub weak_order : HeightWindow n w
  pub agreeing : agrees p w ≡ true

-- some weak order of n agrees with p
unfoldable pub fillable : ℕ → List ℕ → Bool
unfolding count agrees height_windows
fillable n p = ltb 0 (count (agrees p) (height_windows n))

-- the heights that p fixes
unfoldable pub fixed : List ℕ → List ℕ
unfolding select
fixed p = select (λ b. not (is_open b)) p

-- how many places of p are open
unfoldable pub open_places : List ℕ → ℕ
unfolding count
open_places p = count is_open p

-- how many heights below the largest fixed one are not fixed
unfoldable pub missing : List ℕ → ℕ
unfolding fixed bound different
missing p = bound (fixed p) - different (fixed p)

-- r is what f gives for every pattern of n whose table of counts is t (for private functions)
abbrev pub ByTable : ℕ → List ℕ → (List ℕ → ℕ) → ℕ → Type 0
ByTable n t f r = (p : List ℕ) → is_pattern n p ≡ true → t ≡ tally p → r ≡ f p
