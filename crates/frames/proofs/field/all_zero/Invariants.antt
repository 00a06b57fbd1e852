-- `all_zero`: whether all the bytes are zero hangs on those from the index on alone. Assumes nothing.
use mathlib.Core.Path.{◌≡◌}
use lib.ListN.{drop}
use Rattle.frames.specs.Fields.{zeros}
use Rattle.frames.proofs.field.all_zero.Given as goal

abbrev pub invariant-loop-byte : goal.invariant-loop-byte
invariant-loop-byte l = zeros l.s ≡ zeros (drop l.byte-index l.s)
