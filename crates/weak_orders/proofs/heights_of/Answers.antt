use borrow.Author.Rules.{rules}
use mathlib.Core.Path.{◌≡◌, refl, ap, ◌∙◌}
use Prim.Native.Nat.{◌%◌, ◌^◌}
use native.Mathlib.Omega.{arith}
use lib.Count.{ones}
use lib.ListN.{length, take, get_or, length-set}
use Rattle.weak_orders.specs.Window.{heights, height, padded}
use Rattle.weak_orders.proofs.Bits.{ones-height}
use Rattle.weak_orders.proofs.FormTests.{of_rank_window, rank_low}
use Rattle.weak_orders.proofs.Padded.{padded-map, padded_mapped}
use Rattle.weak_orders.proofs.Parts.{at_part}
use Rattle.weak_orders.proofs.heights_of.Goals as goal

pub loop-i-init : goal.loop-i-init
unfolding padded
loop-i-init c = (refl, search rules)

pub bounds-w-i : goal.bounds-w-i
bounds-w-i c = let a = c.args in
    omega (arith, of_rank_window a.w a.n c.requires)

pub height_of-requires : goal.height_of-requires
height_of-requires c = let a = c.args in
    let (pos, le, r) = of_rank_window a.w a.n c.requires in
    let l : length a.w ≡ 16 = search rules in
    omega (arith, rank_low a.w a.n l le r _ (at_part a.w 0 a.n (omega arith) c.loop-i.i (omega arith) (omega arith)))

pub bounds-v-i : goal.bounds-v-i
bounds-v-i c = let a = c.args in
    omega (arith, of_rank_window a.w a.n c.requires)

pub loop-i-preserved : goal.loop-i-preserved
unfolding heights
loop-i-preserved c = let a = c.args in
    let p = c.loop-i in
    let (pos, le, r) = of_rank_window a.w a.n c.requires in
    let l : length a.w ≡ 16 = search rules in
    let u = take a.n a.w in
    let x = get_or a.w p.i 0 in
    let low = rank_low a.w a.n l le r x (at_part a.w 0 a.n (omega arith) p.i (omega arith) (omega arith)) in
    let found : c.height_of.result ≡ height u x =
    c.height_of.ensures ∙ ap (λ b. ones (b % 2 ^ x)) c.present-bits.ensures ∙ ones-height u x (omega arith) in
    (padded-map (height u) a.w p.v a.n p.i _ l le (omega arith) p.invariant.0 found, simp length-set p.invariant.1)

pub returns : goal.returns
unfolding heights
returns c = let a = c.args in
    let p = c.loop-i in
    let (pos, le, r) = of_rank_window a.w a.n c.requires in
    let l : length a.w ≡ 16 = search rules in
    padded_mapped (height (take a.n a.w)) a.w p.v a.n p.i l le (omega arith) p.invariant.0
