use mathlib.Core.Path.{refl, ap₂}
use native.Mathlib.Numerals.{add-one}
use lib.Bits.{bit_or}
use lib.ListN.{take}
use lib.Seq.{take-suc}
use Rattle.weak_orders.specs.Tables.{bits_of}
use Rattle.weak_orders.proofs.Bits.{bits_back}
use Rattle.weak_orders.proofs.present.Goals as goal

pub loop-symbol-init : goal.loop-symbol-init
unfolding bits_of
loop-symbol-init c = refl

pub loop-symbol-preserved : goal.loop-symbol-preserved
loop-symbol-preserved c =
    let u = take c.capped.result c.args.w in
    let i = c.loop-symbol.symbol-index in
    rw (add-one, take-suc u i 0 c.loop-symbol-test.true, bits_back) (ap₂ bit_or c.loop-symbol.invariant c.bit_of-bits.ensures)
