-- Each mark lies behind the one before, so less of the list is left after each sheet.
use Rattle.std.proofs.Common.{length, ◌-◌}
use Rattle.sheet_tests.proofs.try_all.Given as goal

abbrev pub decreases-loop-at : goal.decreases-loop-at
decreases-loop-at g l = length l.s - l.at
