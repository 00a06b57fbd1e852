-- `Session::refuse_begun`: test 10 comes before. Assumes nothing.
use mathlib.Core.Path.{sym, ◌∙◌}
use Rattle.stepper.proofs.Cases.{not_begun, if_begun_lem}
use Rattle.stepper.proofs.session.Session.refuse_begun.Goals as goal

pub returns-then-not-has_begun : goal.returns-then-not-has_begun
returns-then-not-has_begun c = c.refuse.ensures ∙ not_begun _ _ (sym c.has_begun.ensures ∙ c.if-not-has_begun.true)

pub returns : goal.returns
returns c = if_begun_lem _ _ (sym c.has_begun.ensures ∙ c.if-not-has_begun.false) c.refuse-2.ensures
