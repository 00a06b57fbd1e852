-- `ranking::weak_order_count_with` meets its contract: the table's test, carried to the entry. Assumes nothing.
use Prim.Native.Nat.{◌≤◌}
use borrow.Author.Tests.{le-leb}
use Rattle.ranking.proofs.Tabled.{entry-L}
use borrow.Author.Rules.{rules}
use Rattle.ranking.proofs.weak_order_count_with.Goals as goal

pub returns : goal.returns
returns c = let a = c.args in
    let (h, h') : (a.n ≤ 16) × (a.k ≤ 16) = search rules in
    rw (le-leb a.n 16 h, le-leb a.k 16 h') (entry-L c.by_symbols-counts.result c.by_symbols-counts.ensures a.n a.k h h')
