-- `level_lines`: the levels gathered in the table and those that the rest of the text holds are all. Assumes nothing.

use Rattle.level_files.proofs.LevelLines.{Read}
use Rattle.level_files.proofs.level_lines.Given as goal

abbrev pub invariant-loop-d : goal.invariant-loop-d
invariant-loop-d l = Read l.s l.table l.at l.d
