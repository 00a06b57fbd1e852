-- `put_decimal_field`: the decimal, and the byte behind it. Assumes nothing.
use native.Mathlib.Omega.{arith}
use mathlib.Core.List.{[], ◌∷◌}
use lib.ListN.{length-append}
use Rattle.decimals.specs.Text.{decimal}
use Rattle.printing.proofs.Written.{wrote_then}
use Rattle.printing.proofs.writer.put_decimal_field.Goals as goal

pub put_decimal-next-requires : goal.put_decimal-next-requires
put_decimal-next-requires c = let a = c in
    omega (arith, a.requires, length-append (decimal a.args.v) (a.args.end ∷ []))

pub put-requires : goal.put-requires
put-requires c = let d = c in
    let a = d in
    omega (arith, a.requires, length-append (decimal a.args.v) (a.args.end ∷ []), d.put_decimal-next.ensures.end, d.put_decimal-next.auto.out)

pub returns : goal.returns
returns c = let p = c in
    let d = p in
    let a = d in
    wrote_then d.put_decimal-next.ensures p.put.ensures (omega (arith, a.requires, length-append (decimal a.args.v) (a.args.end ∷ [])))
