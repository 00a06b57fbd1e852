-- `put_next`: the comma, and the decimal behind it. Assumes nothing.
use native.Mathlib.Omega.{arith}
use mathlib.Core.Path.{ap}
use lib.ListN.{length}
use Rattle.decimals.specs.Text.{decimal}
use Rattle.printing.proofs.Written.{wrote_then}
use Rattle.printing.proofs.WrittenLists.{commaed_one}
use Rattle.printing.proofs.writer.put_next.Goals as goal

pub put-next-requires : goal.put-next-requires
put-next-requires c = let a = c in omega (arith, a.requires, ap length (commaed_one a.args.v))

pub put_decimal-requires : goal.put_decimal-requires
put_decimal-requires c = let p = c in
    let a = p in
    omega (arith, a.requires, ap length (commaed_one a.args.v), ap (λ v. length (decimal v)) c.from.ensures, p.put-next.ensures.end, p.put-next.auto.out)

pub returns : goal.returns
returns c = let d = c in
    let p = d in
    let a = p in
    rw (commaed_one a.args.v) (wrote_then p.put-next.ensures (rw c.from.ensures at d.put_decimal.ensures) (omega (arith, a.requires, ap length (commaed_one a.args.v))))
