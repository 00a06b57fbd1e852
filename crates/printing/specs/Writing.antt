-- A slice after something was written into it.
use Rattle.std.specs.Prelude.{List, ◌++◌, ◌≡◌, ℕ, ◌+◌, ◌≤◌, length, take, drop}

-- the bytes t from the index at on; all others stay
unfoldable pub written : List ℕ → ℕ → List ℕ → List ℕ
written out at t = take at out ++ (t ++ drop (at + length t) out)

-- t was written at an index, and next is the index behind it
pub record Wrote (out : List ℕ) (at : ℕ) (t : List ℕ) (next : ℕ) (out' : List ℕ) : Type 0 where
  pub text : out' ≡ written out at t
  pub end : next ≡ at + length t

-- n counts bytes at the start of a slice. The second part follows from the first, and is what lending the first n bytes asks for
abbrev pub Counts : ℕ → List ℕ → Type 0
Counts n out = (n ≤ length out) × (n ≡ length (take n out))
