-- `present`: the bits of the symbols passed. Assumes nothing.
use mathlib.Core.Path.{◌≡◌}
use lib.ListN.{take}
use Rattle.weak_orders.specs.Tables.{bits_of}
use Rattle.weak_orders.proofs.present.Given as goal

abbrev pub invariant-loop-symbol : goal.invariant-loop-symbol
invariant-loop-symbol l = l.bits ≡ bits_of (take l.symbol-index l.symbol-items)
