-- `Session::step`: tests 17 and 18 come behind 10, and before 11 and 12. Assumes nothing.
use mathlib.Core.Bool.{false≢true}
use mathlib.Core.Path.{sym, ◌∙◌}
use Rattle.stepper.proofs.session.Session.step.Goals as goal

pub next_step-requires : goal.next_step-requires
next_step-requires c = c.is_next.ensures.to c.if-is_next.true

pub other_step-requires : goal.other_step-requires
other_step-requires c e lt = false≢true (sym c.if-is_next.false ∙ c.is_next.ensures.of (e, lt))
