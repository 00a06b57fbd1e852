use borrow.Author.Rules.{rules}
use mathlib.Core.Path.{◌≡◌, refl}
use Prim.Native.Nat.{suc}
use native.Mathlib.Omega.{arith}
use lib.ListN.{length, take, length-set}
use Rattle.weak_orders.specs.Window.{below, ranks, padded}
use Rattle.weak_orders.proofs.Padded.{padded-map, padded_mapped}
use Rattle.weak_orders.proofs.ranks_of.Goals as goal

pub loop-i-init : goal.loop-i-init
unfolding padded
loop-i-init c = (refl, search rules)

pub loop-i-preserved : goal.loop-i-preserved
unfolding ranks
loop-i-preserved c = let a = c.args in
    let p = c.loop-i in
    let l : length a.w ≡ 16 = search rules in (
      padded-map (λ x. suc (below (take a.n a.w) x)) a.w p.v a.n p.i _ l (omega arith) (omega arith) p.invariant.0
          c.rank_of.ensures,
      simp length-set p.invariant.1,
    )

pub returns : goal.returns
unfolding ranks
returns c = let a = c.args in
    let p = c.loop-i in
    let l : length a.w ≡ 16 = search rules in
    padded_mapped (λ x. suc (below (take a.n a.w) x)) a.w p.v a.n p.i l (omega arith) (omega arith) p.invariant.0
