-- `put_others`: the symbols so far are written, each behind a comma. Assumes nothing.
use lib.ListN.{take, drop}
use Rattle.decimals.specs.Text.{commaed}
use Rattle.printing.specs.Writing.{Wrote}
use Rattle.printing.proofs.writer.put_others.Given as goal

abbrev pub invariant-loop-i : goal.invariant-loop-i
invariant-loop-i l = Wrote l.initial.out l.at (commaed (drop 1 (take l.i l.w))) l.next l.out
