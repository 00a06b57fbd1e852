-- `ranking::one_missing` meets its contract: one more height is allowed, and those that do not use it are taken away. Assumes nothing.
use mathlib.Core.Path.{◌≡◌}
use Prim.Native.Nat.{◌+◌}
use native.Mathlib.Omega.{arith}
use Rattle.ranking.specs.Counts.{ways}
use Rattle.ranking.proofs.CountLaws.{ways_one_more}
use Rattle.ranking.proofs.one_missing.Goals.{After-none_missing-2}
use Rattle.ranking.proofs.one_missing.Goals as goal

split : (c : After-none_missing-2) →
    c.none_missing.result ≡ ways c.args.rest 1 c.args.present + c.none_missing-2.result
split c =
    let a = c.args in
    omega (arith, c.none_missing.ensures, c.none_missing-2.ensures, ways_one_more a.rest 0 a.present)

pub overflow_sub-result : goal.overflow_sub-result
overflow_sub-result c = omega (arith, split c)

pub returns : goal.returns
returns c = omega (arith, split c)
