-- `ranking::weak_order_count` meets its contract: the list's test, carried to the entry that each arm reads. Assumes nothing.
use mathlib.Core.Path.{◌≡◌}
use Prim.Native.Nat.{ℕ, ◌<◌}
use native.Mathlib.Omega.{arith}
use lib.ListN.{get_or}
use Rattle.ranking.specs.Counts.{a}
use Rattle.ranking.proofs.Tabled.{tabled_at}
use Rattle.ranking.proofs.weak_order_count.Goals.{After-totals-counts}
use Rattle.ranking.proofs.weak_order_count.Goals as goal

at : (c : After-totals-counts) (i : ℕ) → i < 17 → get_or c.totals-counts.result i 0 ≡ a i
at c i h = tabled_at 17 a c.totals-counts.result c.totals-counts.ensures i h

pub returns-in-0 : goal.returns-in-0
returns-in-0 c = rw c.in-0.is (at (goal.at.returns-in-0 c).After-totals-counts 0 (omega arith))

pub returns-in-1 : goal.returns-in-1
returns-in-1 c = rw c.in-1.is (at (goal.at.returns-in-1 c).After-totals-counts 1 (omega arith))

pub returns-in-2 : goal.returns-in-2
returns-in-2 c = rw c.in-2.is (at (goal.at.returns-in-2 c).After-totals-counts 2 (omega arith))

pub returns-in-3 : goal.returns-in-3
returns-in-3 c = rw c.in-3.is (at (goal.at.returns-in-3 c).After-totals-counts 3 (omega arith))

pub returns-in-4 : goal.returns-in-4
returns-in-4 c = rw c.in-4.is (at (goal.at.returns-in-4 c).After-totals-counts 4 (omega arith))

pub returns-in-5 : goal.returns-in-5
returns-in-5 c = rw c.in-5.is (at (goal.at.returns-in-5 c).After-totals-counts 5 (omega arith))

pub returns-in-6 : goal.returns-in-6
returns-in-6 c = rw c.in-6.is (at (goal.at.returns-in-6 c).After-totals-counts 6 (omega arith))

pub returns-in-7 : goal.returns-in-7
returns-in-7 c = rw c.in-7.is (at (goal.at.returns-in-7 c).After-totals-counts 7 (omega arith))

pub returns-in-8 : goal.returns-in-8
returns-in-8 c = rw c.in-8.is (at (goal.at.returns-in-8 c).After-totals-counts 8 (omega arith))

pub returns-in-9 : goal.returns-in-9
returns-in-9 c = rw c.in-9.is (at (goal.at.returns-in-9 c).After-totals-counts 9 (omega arith))

pub returns-in-10 : goal.returns-in-10
returns-in-10 c = rw c.in-10.is (at (goal.at.returns-in-10 c).After-totals-counts 10 (omega arith))

pub returns-in-11 : goal.returns-in-11
returns-in-11 c = rw c.in-11.is (at (goal.at.returns-in-11 c).After-totals-counts 11 (omega arith))

pub returns-in-12 : goal.returns-in-12
returns-in-12 c = rw c.in-12.is (at (goal.at.returns-in-12 c).After-totals-counts 12 (omega arith))

pub returns-in-13 : goal.returns-in-13
returns-in-13 c = rw c.in-13.is (at (goal.at.returns-in-13 c).After-totals-counts 13 (omega arith))

pub returns-in-14 : goal.returns-in-14
returns-in-14 c = rw c.in-14.is (at (goal.at.returns-in-14 c).After-totals-counts 14 (omega arith))

pub returns-in-15 : goal.returns-in-15
returns-in-15 c = rw c.in-15.is (at (goal.at.returns-in-15 c).After-totals-counts 15 (omega arith))

pub returns-in-16 : goal.returns-in-16
returns-in-16 c = rw c.in-16.is (at (goal.at.returns-in-16 c).After-totals-counts 16 (omega arith))
