-- `ranking::tables::by_symbols` meets its contract: antt computes the test at each entry. Assumes nothing.
use mathlib.Core.Path.{refl}
use Rattle.ranking.specs.Tables.{is_count_table}
use Rattle.ranking.proofs.tables.by_symbols.Goals as goal

pub returns : goal.returns
unfolding is_count_table
returns c = refl
