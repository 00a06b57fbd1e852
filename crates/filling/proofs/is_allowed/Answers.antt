-- `is_allowed`: the test of the definition. Assumes nothing.
use borrow.Author.Tests.{ne_eqb}
use Rattle.filling.specs.Pattern.{is_allowed}
use Rattle.filling.proofs.is_allowed.Goals as goal

pub returns-then-b-eq-OPEN : goal.returns-then-b-eq-OPEN
unfolding is_allowed
returns-then-b-eq-OPEN c = rw c.if-b-eq-OPEN.true

pub returns-else-b-eq-OPEN : goal.returns-else-b-eq-OPEN
unfolding is_allowed
returns-else-b-eq-OPEN c = rw (ne_eqb c.args.b 255 c.if-b-eq-OPEN.false, c.from.ensures)
