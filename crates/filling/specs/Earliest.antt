-- The earliest filling of a pattern (document 02, Paper 8).
use Rattle.std.specs.Prelude.{true, List, [], ◌≡◌, ℕ, get_or}
use Rattle.rotations.specs.Order.{lex_le}
use Rattle.ranking.specs.Dictionary.{select, height_windows}
use Rattle.filling.specs.Pattern.{agrees, Filling}

-- the first in dictionary order of the weak orders of n that agree with p: `height_windows` lists them all in this order, in which places are
-- counted too. [] where none agrees.
unfoldable pub earliest : ℕ → List ℕ → List ℕ
unfolding select agrees height_windows
earliest n p = get_or (select (agrees p) (height_windows n)) 0 []

-- w is a filling of p, and no filling stands before it
pub record IsFirst (n : ℕ) (p w : List ℕ) : Type 0 where
  pub filling : Filling n p w
  pub first : (v : List ℕ) → Filling n p v → lex_le w v ≡ true
