-- `started`: the round as it was judged, and no step done. Assumes nothing.
use Rattle.printing.specs.Printing.{started}
use Rattle.printing.proofs.started.Goals as goal

pub returns-in-Ok : goal.returns-in-Ok
unfolding started
returns-in-Ok c = rw (c.in-Ok.is, c.weak_order_count.ensures)

pub returns-in-Err : goal.returns-in-Err
unfolding started
returns-in-Err c = rw (c.in-Err.is, c.no_round.ensures)
