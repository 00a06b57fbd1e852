-- `onward`: the window stepped, and one more step done. Assumes nothing.
use Rattle.printing.specs.Printing.{onward}
use Rattle.successors.proofs.Steppable.{step_made}
use Rattle.printing.proofs.onward.Goals as goal

pub returns : goal.returns
unfolding onward
returns c = rw (c.step-next.ensures, step_made _ _ _ c.requires.0)
