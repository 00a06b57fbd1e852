-- `steps`: the window after i steps. Assumes nothing.
use mathlib.Core.Path.{◌≡◌}
use Rattle.weak_orders.specs.Window.{iter}
use Rattle.successors.specs.NextSymbol.{step_or_stay}
use Rattle.walk.proofs.steps.Given as goal

abbrev pub invariant-loop : goal.invariant-loop
invariant-loop l = l.v ≡ iter (step_or_stay l.rule l.n) l.counter l.initial.v
