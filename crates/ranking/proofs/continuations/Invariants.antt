-- `ranking::continuations` meets its contract. The loop's invariant: the first v counts are right, in terms of what was found out about
-- the prefix (`Known`). Assumes nothing.
use mathlib.Core.Path.{◌≡◌}
use lib.ListN.{length}
use Rattle.ranking.specs.Tables.{Entries}
use Rattle.ranking.proofs.Following.{counted}
use Rattle.ranking.proofs.continuations.Given as goal

abbrev pub invariant-loop-v : goal.invariant-loop-v
invariant-loop-v l = (length l.counts ≡ 16) × Entries l.counts (counted l.seen l.top l.present l.totals) l.v
