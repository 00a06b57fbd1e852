use borrow.Author.Rules.{rules}
use mathlib.Core.Path.{◌≡◌}
use Prim.Native.Nat.{◌+◌}
use native.Mathlib.Omega.{arith}
use lib.ListN.{take}
use Rattle.successors.proofs.Steppable.{says_steppable}
use Rattle.rotating_steps.proofs.Loop.{Walking, begun, sized, onward, others_le}
use Rattle.rotating_steps.proofs.count_other.Goals.{Start}
use Rattle.rotating_steps.proofs.count_other.Goals as goal

start : (c : Start) → Walking c.args.rule c.args.n c.args.w c.args.w 0 0
start c = begun c.args.rule c.args.n c.args.w (search rules) ((says_steppable c.args.rule c.args.n c.args.w).to c.requires)

pub overflow_sub-last : goal.overflow_sub-last
overflow_sub-last c = omega (arith, sized (start c))

pub loop-init : goal.loop-init
loop-init c = start c

pub bounds-next-last : goal.bounds-next-last
bounds-next-last c = omega (arith, sized c.loop.invariant)

pub bounds-v-0 : goal.bounds-v-0
bounds-v-0 c = omega (arith, sized c.loop.invariant)

pub overflow_add-total : goal.overflow_add-total
overflow_add-total c = let a = c.args in
    let further = onward c.loop.invariant c.step-next.ensures c.from-total.ensures in
    omega (arith, further.tally, others_le a.rule (take a.n a.w) (c.loop.counter + 1))

pub loop-preserved : goal.loop-preserved
loop-preserved c = onward c.loop.invariant c.step-next.ensures c.from-total.ensures

pub returns : goal.returns
returns c = let e : c.loop.counter ≡ c.args.steps = omega arith in
    rw e at c.loop.invariant.tally
