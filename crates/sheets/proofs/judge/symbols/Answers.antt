use borrow.Author.Rules.{rules}
use mathlib.Core.Path.{◌≡◌, refl, ap, ◌∙◌}
use Rattle.std.proofs.lemmas.List.{get_or-take}
use native.Mathlib.Omega.{arith}
use lib.ListN.{length, length-set}
use lib.Seq.{length-take-le}
use Rattle.weak_orders.specs.Window.{padded}
use Rattle.weak_orders.proofs.Padded.{padded-map, padded_mapped}
use Rattle.sheets.specs.Judgement.{symbol_of}
use Rattle.sheets.proofs.judge.symbols.Goals as goal

pub loop-i-init : goal.loop-i-init
unfolding padded
loop-i-init c = (refl, search rules)

pub loop-i-preserved : goal.loop-i-preserved
loop-i-preserved c = let a = c.args in
    let p = c.loop-i in
    let l : length a.items ≡ 16 = search rules in
    let n = length-take-le a.n a.items (omega arith) in (
      padded-map symbol_of a.items p.w a.n p.i _ l (omega arith) (omega arith) p.invariant.0 (c.symbol.ensures ∙ ap symbol_of (get_or-take a.n a.items p.i 0 (omega arith))),
      simp length-set p.invariant.1,
    )

pub returns : goal.returns
returns c = let a = c.args in
    let p = c.loop-i in
    let l : length a.items ≡ 16 = search rules in
    let n = length-take-le a.n a.items (omega arith) in
    padded_mapped symbol_of a.items p.w a.n p.i l (omega arith) (omega arith) p.invariant.0
