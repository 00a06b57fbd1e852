-- `choice`: the test of the definition, and its two cases. Assumes nothing.
use mathlib.Core.Path.{◌≡◌}
use native.Mathlib.Omega.{arith}
use lib.ListN.{get_or, take}
use borrow.Author.Tests.{lt-ltb, le-ltb}
use Rattle.filling.specs.Choice.{choice}
use Rattle.filling.specs.Pattern.{open_places, missing}
use Rattle.filling.proofs.Scans.{table_open}
use Rattle.filling.proofs.Pattern.choice.Goals.{After-missing}
use Rattle.filling.proofs.Pattern.choice.Goals as goal

-- the two numbers that are compared
counted : (c : After-missing) →
    let p = c.args.self in
    (c.missing.result ≡ missing (take p.n p.bytes)) × (get_or c.counts-t.result 17 0 ≡ open_places (take p.n p.bytes))
counted c =
    let p = c.args.self in
    let k = c.counts-t in
    (c.missing.ensures _ p.allowed k.ensures.value, table_open _ _ p.short p.allowed k.result k.ensures.value)

pub returns-then-missing-from : goal.returns-then-missing-from
unfolding choice
returns-then-missing-from c = let p = c.args.self in
    let q = take p.n p.bytes in
    rw (lt-ltb (missing q) (open_places q) (omega (arith, counted (goal.at.returns-then-missing-from c).After-missing, c.from.ensures)))

pub returns : goal.returns
unfolding choice
returns c = let m = (goal.at.returns c).After-missing in
    let p = c.args.self in
    let q = take p.n p.bytes in
    rw (le-ltb (missing q) (open_places q) (omega (arith, counted m, c.from.ensures))) (c.least_missing.ensures q p.allowed m.counts-t.ensures.value)
