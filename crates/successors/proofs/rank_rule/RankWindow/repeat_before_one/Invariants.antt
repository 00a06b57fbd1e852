-- `repeat_before_one`: the loop's invariant is that no 1 was passed, so a 1 stands behind a symbol that fails the test. Assumes nothing.
use mathlib.Core.Logic.{◌≢◌}
use Prim.Native.Nat.{ℕ, ◌<◌}
use lib.ListN.{get_or}
use Rattle.successors.proofs.rank_rule.RankWindow.repeat_before_one.Given as goal

abbrev pub invariant-loop-v : goal.invariant-loop-v
invariant-loop-v l = (k : ℕ) → k < l.v-index → get_or l.v-items k 0 ≢ 1
