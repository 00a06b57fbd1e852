-- `is_rank_table`: the symbols passed are ranked, and their places are counted. Assumes nothing.
use mathlib.Core.Path.{◌≡◌}
use Prim.Native.Nat.{◌≤◌, ◌*◌}
use Rattle.weak_orders.specs.Tables.{upto}
use Rattle.weak_orders.proofs.FormTests.{Ranked}
use Rattle.weak_orders.proofs.is_rank_table.Given as goal

abbrev pub invariant-loop-v : goal.invariant-loop-v
invariant-loop-v l = (l.seen ≡ upto l.fn.t l.v) × Ranked l.fn.t l.v × (l.seen ≤ 255 * l.v)
