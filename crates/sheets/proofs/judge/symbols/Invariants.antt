-- `symbols`: the array holds the items so far, each as a byte. Assumes nothing.
use mathlib.Core.List.{map}
use mathlib.Core.Path.{◌≡◌}
use lib.ListN.{length, take}
use Rattle.weak_orders.specs.Window.{padded}
use Rattle.sheets.specs.Judgement.{symbol_of}
use Rattle.sheets.proofs.judge.symbols.Given as goal

abbrev pub invariant-loop-i : goal.invariant-loop-i
invariant-loop-i l = (l.w ≡ padded (take l.i (map symbol_of (take l.n l.fn.items)))) × (length l.w ≡ 16)
