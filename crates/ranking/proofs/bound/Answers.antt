use mathlib.Core.Path.{◌≡◌, refl, ap, ◌∙◌}
use Prim.Native.Nat.{max, ◌+◌}
use native.Mathlib.Omega.{arith}
use lib.ListN.{take, get_or}
use borrow.Author.Rules.{rules}
use Rattle.std.proofs.lemmas.List.{take_more}
use Rattle.weak_orders.specs.Window.{bound as boundOf}
use Rattle.weak_orders.proofs.Symbols.{bound_back}
use Rattle.ranking.proofs.bound.Goals as goal

pub loop-x-init : goal.loop-x-init
unfolding boundOf
loop-x-init c = refl

pub loop-x-preserved : goal.loop-x-preserved
loop-x-preserved c =
    let l = take c.args.i c.args.w in
    let k = c.loop-x.x-index in
    let next = ap boundOf (take_more l k 0 (omega arith)) ∙ bound_back (take k l) (get_or l k 0) in
    let larger : c.max-b.result ≡ max c.loop-x.b (get_or l k 0 + 1) = search rules in
    omega (arith, next, c.loop-x.invariant)
