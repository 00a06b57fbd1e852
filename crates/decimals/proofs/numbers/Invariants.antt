-- `numbers`: the decimals gathered in the array and those that the rest of the text holds are all. Assumes nothing.
use Rattle.decimals.proofs.Gathering.{Gathered}
use Rattle.decimals.proofs.numbers.Given as goal

abbrev pub invariant-loop-i : goal.invariant-loop-i
invariant-loop-i l = Gathered l.s l.values l.i l.at
