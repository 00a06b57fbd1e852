use mathlib.Core.Bool.{Bool, true, false}
use mir.Val.{bool_byte}
use mathlib.Core.List.{[], ◌∷◌, ◌++◌}
use mathlib.Core.Path.{◌≡◌, refl, ◌∙◌}
use Prim.Native.Nat.{◌+◌}
use native.Mathlib.Omega.{arith}
use native.Mathlib.Numerals.{add-one}
use borrow.Author.Rules.{rules}
use lib.Dec.{ltb}
use lib.ListN.{length, take, get_or}
use lib.Seq.{take-suc, length-take-le}
use Rattle.weak_orders.specs.Window.{below}
use Rattle.weak_orders.proofs.Symbols.{below_le_length, below_back}
use Rattle.weak_orders.proofs.Tests.{bit, bit≤1}
use Rattle.weak_orders.proofs.rank_of.Goals as goal

-- a test as a byte
byte : (b : Bool) → bool_byte b ≡ bit b
byte true = refl
byte false = refl

pub loop-x-init : goal.loop-x-init
unfolding below
loop-x-init c = refl

pub overflow_add-rank : goal.overflow_add-rank
overflow_add-rank c =
    let a = c.args in
    let p = c.loop-x in
    let l : length a.w ≡ 16 = search rules in
    let u = take a.n a.w in
    let size : length u ≡ a.n = length-take-le a.n a.w (omega arith) in
    let x = get_or u p.x-index 0 in
    let added : c.from-rank.result ≡ bit (ltb x a.v) = c.from-rank.ensures ∙ byte (ltb x a.v) in
    let one = bit≤1 (ltb x a.v) in
    omega (arith, added, below_le_length (take p.x-index u) a.v, length-take-le p.x-index u (omega arith))

pub loop-x-preserved : goal.loop-x-preserved
loop-x-preserved c =
    let p = c.loop-x in
    let u = take c.args.n c.args.w in
    let x = get_or u p.x-index 0 in
    let e : take (p.x-index + 1) u ≡ take p.x-index u ++ (x ∷ []) = rw (add-one, take-suc u p.x-index 0 c.loop-x-test.true) in
    let one : c.from-rank.result ≡ bit (ltb x c.args.v) = c.from-rank.ensures ∙ byte (ltb x c.args.v) in
    rw e (omega (arith, one, below_back (take p.x-index u) x c.args.v))
