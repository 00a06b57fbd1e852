-- `ranking::tables::totals` meets its contract: antt computes the test at each entry. Assumes nothing.
use mathlib.Core.Path.{refl}
use Rattle.ranking.specs.Counts.{a}
use Rattle.ranking.specs.Tables.{tabled}
use Rattle.ranking.proofs.tables.totals.Goals as goal

pub returns : goal.returns
unfolding tabled a
returns c = refl
