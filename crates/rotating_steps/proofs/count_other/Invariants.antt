-- `count_other`: the window after i steps, still one that can step, and the tally of those before it. Assumes nothing.
use Rattle.rotating_steps.proofs.Loop.{Walking}
use Rattle.rotating_steps.proofs.count_other.Given as goal

abbrev pub invariant-loop : goal.invariant-loop
invariant-loop l = Walking l.rule l.n l.initial.v l.v l.total l.counter
