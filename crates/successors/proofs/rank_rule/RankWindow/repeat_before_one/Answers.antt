use mathlib.Core.Path.{◌≡◌, sym, ◌∙◌}
use Prim.Native.Nat.{◌≤◌}
use native.Mathlib.Omega.{arith}
use borrow.Author.Rules.{rules}
use lib.ListN.{length}
use Rattle.successors.specs.ByTable.{passes_by, single_by}
use Rattle.successors.proofs.RankWindows.{repeat_seen}
use Rattle.successors.proofs.rank_rule.RankWindow.repeat_before_one.Goals as goal

pub returns-then-not-passes : goal.returns-then-not-passes
unfolding passes_by single_by
returns-then-not-passes c _ =
    let r = c.args.self in
    let l : length r.w ≡ 16 = search rules in
    let long : r.n ≤ length r.w = omega (arith, r.most) in
    repeat_seen (passes_by r.t c.args.p) r.w r.n c.loop-v.v-index long c.loop-v-test.true c.loop-v.invariant (omega arith)
    (rw c.from.ensures at (sym c.passes.ensures ∙ c.if-not-passes.true))
