use mathlib.Core.Path.{◌≡◌, refl, ap, ◌∙◌}
use native.Mathlib.Omega.{arith}
use native.Mathlib.Numerals.{add-one}
use Rattle.weak_orders.specs.Window.{iter}
use Rattle.successors.specs.NextSymbol.{step_or_stay}
use Rattle.walk.proofs.steps.Goals as goal

pub loop-init : goal.loop-init
unfolding iter
loop-init c = refl

pub loop-preserved : goal.loop-preserved
unfolding iter
loop-preserved c = let a = c.args in rw add-one (c.step-next.ensures ∙ ap (step_or_stay a.rule a.n) c.loop.invariant)

pub returns : goal.returns
returns c = let e : c.loop.counter ≡ c.args.count = omega arith in rw e at c.loop.invariant
