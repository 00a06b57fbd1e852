-- `table_ok`: the levels are allowed, and the order. Assumes nothing.
use mathlib.Core.Path.{◌≡◌, ◌∙◌}
use lib.ListN.{length}
use borrow.Author.Rules.{rules}
use borrow.Author.Tests.{eq-eqb, tests}
use Rattle.std.proofs.iter.runs.Made.{chains}
use Rattle.std.proofs.lemmas.Iterator.{YieldsList-from_slice}
use Rattle.std.proofs.lemmas.Iterator.Search.{all_from_yields_List}
use Rattle.weak_orders.specs.Window.{all}
use Rattle.weak_orders.proofs.Chains.{list_all-all}
use Rattle.levels.specs.Table.{level_allowed, table_ok}
use Rattle.levels.proofs.table.table_ok.Goals.{After-all}
use Rattle.levels.proofs.table.table_ok.Goals as goal

allowed : (c : After-all) → c.all.result ≡ all level_allowed c.args.table
allowed c = all_from_yields_List level_allowed _ _ c.all.result c.all.ensures.ran (YieldsList-from_slice c.args.table cc)
    (λ x b q k. search (rules, chains, tests))
    ∙ list_all-all level_allowed c.args.table

pub returns-then-all : goal.returns-then-all
unfolding table_ok
returns-then-all c =
    let l : length c.args.table ≡ 16 = search rules in
    rw (eq-eqb (length c.args.table) 16 l, ← allowed (goal.at.returns-then-all c).After-all, c.if-all.true) c.falls.ensures

pub returns-else-all : goal.returns-else-all
unfolding table_ok
returns-else-all c =
    let l : length c.args.table ≡ 16 = search rules in
    rw (eq-eqb (length c.args.table) 16 l, ← allowed (goal.at.returns-else-all c).After-all, c.if-all.false)
