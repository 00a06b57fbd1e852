-- `put_joined_field`: the first symbol, the others behind commas, and the byte behind them. Assumes nothing.
use native.Mathlib.Omega.{arith}
use mathlib.Core.List.{[], ◌∷◌, ◌++◌, append_assoc}
use mathlib.Core.Path.{◌≡◌, ap}
use Prim.Native.Nat.{◌+◌}
use lib.ListN.{length, get_or, take, drop, length-append}
use Rattle.decimals.specs.Text.{decimal, commaed, joined}
use Rattle.printing.proofs.Written.{wrote_then}
use Rattle.printing.proofs.WrittenLists.{joined_first}
use borrow.Author.Rules.{rules}
use Rattle.printing.proofs.writer.put_joined_field.Goals.{Start}
use Rattle.printing.proofs.writer.put_joined_field.Goals as goal

-- the parts of the text, and its length
text : (c : Start) → let a = c.args in
    joined (take a.n a.w) ++ (a.end ∷ [])
    ≡ decimal (get_or a.w 0 0) ++ (commaed (drop 1 (take a.n a.w)) ++ (a.end ∷ []))
text c =
    let a = c.args in
    let long : length a.w ≡ 16 = search rules in
    rw (joined_first a.w a.n c.requires.0 (omega (arith, c.requires.1)), append_assoc)

size : (c : Start) → let a = c.args in
    length (joined (take a.n a.w) ++ (a.end ∷ []))
    ≡ length (decimal (get_or a.w 0 0)) + (length (commaed (drop 1 (take a.n a.w))) + 1)
size c =
    let a = c.args in
    let rest = commaed (drop 1 (take a.n a.w)) in
    omega (arith, ap length (text c), length-append (decimal (get_or a.w 0 0)) (rest ++ (a.end ∷ [])), length-append rest (a.end ∷ []))

pub put_decimal-others-requires : goal.put_decimal-others-requires
put_decimal-others-requires c = omega (arith, c.requires.2, size (goal.at.put_decimal-others-requires c).Start, ap (λ v. length (decimal v)) c.from.ensures)

pub put_others-last-requires : goal.put_others-last-requires
put_others-last-requires c = let d = c in
    let s = (goal.at.put_others-last-requires c).Start in
    (s.requires.0, s.requires.1, omega (arith, s.requires.2, size s, ap (λ v. length (decimal v)) c.from.ensures, d.put_decimal-others.ensures.end, d.put_decimal-others.auto.out))

pub put-requires : goal.put-requires
put-requires c = let o = c in
    let d = o in
    let s = (goal.at.put-requires c).Start in
    omega (arith, s.requires.2, size s, ap (λ v. length (decimal v)) c.from.ensures, d.put_decimal-others.ensures.end, d.put_decimal-others.auto.out, o.put_others-last.ensures.end, o.put_others-last.auto.out)

pub returns : goal.returns
returns c = let p = c in
    let o = p in
    let d = o in
    let s = (goal.at.returns c).Start in
    let rest = wrote_then o.put_others-last.ensures p.put.ensures (omega (arith, s.requires.2, size s, ap (λ v. length (decimal v)) c.from.ensures, d.put_decimal-others.ensures.end, d.put_decimal-others.auto.out)) in
    rw (text s) (wrote_then (rw c.from.ensures at d.put_decimal-others.ensures) rest (omega (arith, s.requires.2, size s)))
