-- `is_rank`: by the table of counts. Assumes nothing.
use mathlib.Core.Path.{◌∙◌}
use borrow.Author.Rules.{rules}
use Rattle.weak_orders.proofs.FormTests.{rank_by_table}
use Rattle.weak_orders.proofs.is_rank.Goals as goal

pub returns : goal.returns
returns c = let a = c.args in
    c.is_rank_table.ensures ∙ rw c.counts.ensures.value (rank_by_table a.w a.n (search rules))
