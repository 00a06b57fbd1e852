-- What the readers of a level file answer, for what they find.
use Rattle.std.specs.Prelude.{cond, List, ℤ, Option, Some, None}
use Rattle.std.proofs.Math.Option.{Option as Maybe, none, some}
use Rattle.weak_orders.specs.Window.{all}
use Rattle.levels.specs.Table.{level_allowed}
use Rattle.decimals.specs.Reading.{Found, found, missing}
use Rattle.decimals.specs.declared.Taken.{Taken}

-- sixteen levels that have room in a table, and how many bytes their lines take
unfoldable pub lines_of : Found (List ℤ) → Option (Taken (List ℤ))
unfolding all level_allowed
lines_of (found t k) = cond (all level_allowed t) (Some (record { value = t; len = k })) None
lines_of missing = None

-- the table of a file, or none
abbrev pub table_read : Maybe (List ℤ) → Option (List ℤ)
table_read (some t) = Some t
table_read none = None
