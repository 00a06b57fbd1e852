use mathlib.Core.Path.{◌≡◌, sym, ◌∙◌}
use native.Mathlib.Omega.{arith}
use Rattle.successors.proofs.Tables.{largest_by_here, largest_by-lower, largest_by_zero}
use Rattle.successors.proofs.rank_rule.RankWindow.largest_below.Goals as goal

pub returns-then-self-from-ne0 : goal.returns-then-self-from-ne0
returns-then-self-from-ne0 c =
    sym (c.loop-p.invariant ∙ largest_by_here c.args.self.t c.loop-p.p (omega arith) (rw c.from.ensures at c.if-self-from-ne0.true))

pub loop-p-preserved : goal.loop-p-preserved
loop-p-preserved c =
    c.loop-p.invariant ∙ largest_by-lower c.args.self.t c.loop-p.p (omega arith) (rw c.from.ensures at c.if-self-from-ne0.false)

pub returns : goal.returns
returns c =
    let e : c.loop-p.p ≡ 0 = omega arith in
    sym (c.loop-p.invariant ∙ rw e (largest_by_zero c.args.self.t))
