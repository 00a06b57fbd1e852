-- `next_page`: the lines filled so far, and those of the page that are still to come, are the page. Assumes nothing.
use Prim.Native.Nat.{◌-◌}
use Rattle.printing.proofs.Filling.{Filling}
use Rattle.printing.proofs.next_page.Given as goal

abbrev pub invariant-loop-now : goal.invariant-loop-now
invariant-loop-now l = Filling l.initial.now l.initial.out l.now l.len l.out

abbrev pub decreases-loop-now : goal.decreases-loop-now
decreases-loop-now l = l.now.last - l.now.done
