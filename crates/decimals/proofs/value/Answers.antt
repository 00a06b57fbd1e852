use native.Mathlib.Omega.{arith}
use mathlib.Core.Path.{refl}
use Rattle.decimals.specs.Reading.{value}
use Rattle.decimals.proofs.Cursors.{digit_at, value-next, value_room}
use Rattle.decimals.proofs.value.Goals as goal

pub loop-b-init : goal.loop-b-init
unfolding value
loop-b-init c = refl

pub overflow_mul-v : goal.overflow_mul-v
overflow_mul-v c = record { fits = omega (arith, value_room c.args.s.now c.loop-b.b-index c.requires.0 c.loop-b-test.true c.requires.1) }

pub overflow_sub-b : goal.overflow_sub-b
overflow_sub-b c = omega (arith, digit_at c.loop-b.b-index c.requires.0 c.loop-b-test.true)

pub overflow_add-v : goal.overflow_add-v
overflow_add-v c =
    let i = c.loop-b.b-index in
    let h = c.loop-b-test.true in
    record { fits = omega (arith, digit_at i c.requires.0 h, value_room c.args.s.now i c.requires.0 h c.requires.1) }

pub loop-b-preserved : goal.loop-b-preserved
loop-b-preserved c = omega (arith, value-next c.args.s.now c.loop-b.b-index c.loop-b-test.true)
