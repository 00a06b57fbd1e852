-- `put_decimal` meets its contract, by induction on the number: the digits before the last one, and that one. Assumes nothing.
use mathlib.Core.Path.{ap}
use native.Mathlib.Nat.{mod-lt}
use native.Mathlib.Omega.{arith}
use lib.ListN.{length}
use Rattle.decimals.proofs.Digits.{tenth, decimal_small, decimal_longer}
use Rattle.printing.proofs.Written.{decimal_one, decimal_then}
use Rattle.printing.proofs.writer.+put_decimal.Goals as goal

pub put-requires : goal.put-requires
put-requires t c = omega (arith, c.requires, ap length (decimal_small c.args.v c.if-v-lt10.true))

pub returns-then-v-lt10 : goal.returns-then-v-lt10
returns-then-v-lt10 t c = decimal_one c.args.v c.if-v-lt10.true c.put.ensures

pub put_decimal-next-requires : goal.put_decimal-next-requires
put_decimal-next-requires t c =
    let h = c.if-v-lt10.false in
    (omega (arith, tenth c.args.v h), omega (arith, c.requires, decimal_longer c.args.v h))

pub overflow_cast-v-2 : goal.overflow_cast-v-2
overflow_cast-v-2 t c = record { fits = omega (arith, mod-lt c.args.v {m = 10} (omega arith)) }

pub overflow_add-v-2 : goal.overflow_add-v-2
overflow_add-v-2 t c = record { fits = omega (arith, mod-lt c.args.v {m = 10} (omega arith)) }

pub put-requires-2 : goal.put-requires-2
put-requires-2 t c = omega (arith, c.requires, c.put_decimal-next.ensures.end, c.put_decimal-next.auto.out, decimal_longer c.args.v c.if-v-lt10.false)

pub returns : goal.returns
returns t c = decimal_then c.args.v c.if-v-lt10.false c.put_decimal-next.ensures c.put-2.ensures c.requires
