-- `largest_below` goes down from v. The loop's invariant: the largest below v is the largest below p. Assumes nothing.
use mathlib.Core.Path.{◌≡◌}
use Rattle.successors.specs.ByTable.{largest_by}
use Rattle.successors.proofs.rank_rule.RankWindow.largest_below.Given as goal

abbrev pub invariant-loop-p : goal.invariant-loop-p
invariant-loop-p l = largest_by l.self.t l.v ≡ largest_by l.self.t l.p
