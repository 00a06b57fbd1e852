-- `height_for`: the byte is fixed, or open. Assumes nothing.
use lib.ListN.{get_or}
use borrow.Author.Tests.{eq-eqb, ne_eqb}
use Rattle.filling.specs.Choice.{height_for}
use Rattle.filling.proofs.Pattern.height_for.Goals as goal

pub returns-then-b : goal.returns-then-b
unfolding height_for
returns-then-b c = let p = c.args.self in
    rw (ne_eqb (get_or p.bytes c.args.i 0) 255 c.if-b.true)

pub returns : goal.returns
unfolding height_for
returns c = let p = c.args.self in
    rw (eq-eqb (get_or p.bytes c.args.i 0) 255 c.if-b.false) c.choice.ensures
