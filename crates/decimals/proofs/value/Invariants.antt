-- `value`: the value of the digits passed, which leaves room for one more. Assumes nothing.
use mathlib.Core.Path.{◌≡◌}
use lib.ListN.{take}
use Rattle.decimals.specs.Reading.{value}
use Rattle.decimals.proofs.value.Given as goal

abbrev pub invariant-loop-b : goal.invariant-loop-b
invariant-loop-b l = l.v ≡ value 0 (take l.b-index l.s)
