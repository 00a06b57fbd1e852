use mathlib.Core.Path.{◌≡◌}
use Prim.Native.Nat.{ℕ, ◌+◌, ◌-◌}
use native.Mathlib.Omega.{arith}
use lib.ListN.{get_or}
use Rattle.ranking.specs.Counts.{sum}
use Rattle.ranking.proofs.Sums.{sum_zero, sum_more, sum-before}
use borrow.Author.Rules.{rules}
use Rattle.ranking.proofs.symbol_at.Goals as goal

pub loop-v-init : goal.loop-v-init
loop-v-init c = let f : ℕ → ℕ = λ u. get_or c.args.counts.now u 0 in
    let z = sum_zero f in
    (sum-before f 0 c.args.n c.args.left (omega arith) c.requires.1, omega arith)

pub loop-v-preserved : goal.loop-v-preserved
loop-v-preserved c = let l = c in
    let a = l.args in
    let f : ℕ → ℕ = λ u. get_or a.counts.now u 0 in
    let v = l.loop-v.v in
    let e : sum f (v + 1) + (l.loop-v.rest - f v) ≡ a.left = omega (arith, sum_more f v, l.loop-v.invariant.1) in
    (sum-before f (v + 1) a.n a.left (omega arith) l.requires.1, e)

pub returns : goal.returns
returns c = (search rules, record { at = c.loop-v.invariant.1; within = search rules })
