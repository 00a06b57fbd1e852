-- What is known of a slice that was read into.
use Rattle.std.specs.Prelude.{List, ℕ, ◌<◌, length, IsSome}
use Rattle.std.specs.Counts.{IsPrefixLen}
use Rattle.input.specs.declared.Got.{Got}

-- the count is of bytes at the front of the slice; and where a read failed the slice is not full
pub record Filled (r : Got) (out : List ℕ) : Type 0 where
  pub counts : IsPrefixLen r.len out
  pub short : IsSome r.failed → r.len < length out
