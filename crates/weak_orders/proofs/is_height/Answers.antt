-- `is_height`: by the symbols as bits. Assumes nothing.
use mathlib.Core.Path.{sym, ◌∙◌}
use Prim.Native.Nat.{◌^◌}
use borrow.Author.Tests.{not-true, le-ltb}
use Rattle.weak_orders.proofs.FormTests.{sized, no_length, height_high, height_by_bits}
use borrow.Author.Rules.{rules}
use Rattle.weak_orders.proofs.is_height.Goals.{Else-not-is_length}
use Rattle.weak_orders.proofs.is_height.Goals as goal

pub returns-then-not-is_length : goal.returns-then-not-is_length
returns-then-not-is_length c = let l = c.is_length in
    no_length c.args.w c.args.n (search rules) (sym l.ensures ∙ not-true l.result c.if-not-is_length.true-raw)

pub returns-then-bits : goal.returns-then-bits
returns-then-bits c = let a = c.args in
    let (pos, le) = sized a.n c.if-not-is_length.ensures in
    let p = c.present-bits in
    height_by_bits a.w a.n (search rules) pos le p.result p.ensures c.if-bits.true

pub returns-else-bits : goal.returns-else-bits
returns-else-bits c = let a = c.args in
    let (pos, le) = sized a.n c.if-not-is_length.ensures in
    let p = c.present-bits in
    le-ltb p.result (2 ^ 31) c.if-bits.false ∙ height_high a.w a.n (search rules) pos le p.result p.ensures c.if-bits.false
