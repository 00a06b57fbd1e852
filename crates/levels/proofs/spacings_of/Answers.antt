-- `spacings_of` meets its contract, by the cases of the rule. Assumes nothing.
use borrow.Author.Tests.{eq-eqb, ne_eqb}
use Rattle.levels.specs.Level.{spacings}
use Rattle.levels.proofs.spacings_of.Goals as goal

pub returns-then-rule-eq1 : goal.returns-then-rule-eq1
unfolding spacings
returns-then-rule-eq1 c = rw (eq-eqb _ 1 c.if-rule-eq1.true) c.saturating_sub.ensures

pub returns-else-rule-eq1 : goal.returns-else-rule-eq1
unfolding spacings
returns-else-rule-eq1 c = rw (ne_eqb _ 1 c.if-rule-eq1.false)
