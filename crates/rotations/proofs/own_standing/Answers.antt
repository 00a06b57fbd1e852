use mathlib.Core.Bool.{true}
use mathlib.Core.List.{List}
use mathlib.Core.Path.{◌≡◌, sym, ap, subst, ◌∙◌}
use Prim.Native.Nat.{ℕ, ◌-◌}
use native.Mathlib.Omega.{arith}
use borrow.Author.Rules.{rules}
use lib.ListN.{length, take}
use Rattle.weak_orders.proofs.Parts.{capped_window}
use Rattle.rotations.specs.Rotation.{rotation, own_standing}
use Rattle.std.specs.declared.cmp.Ordering.{Ordering}
use Rattle.std.specs.declared.cmp.Ordering.TheVariants.{Less, Equal, Greater}
use Rattle.std.specs.Prelude.{Some}
use Rattle.rotations.proofs.Compared.{Told, told}
use Rattle.rotations.proofs.Orders.{downward}
use Rattle.rotations.proofs.RotationSearch.{first_one, first_stays, Found, found_again, found_once, own_greatest, own_behind}
use Rattle.rotations.proofs.own_standing.Goals.{After-capped-end, After-compare}
use Rattle.rotations.proofs.own_standing.Goals as goal

-- the window, and that it is all that was handed in
abbrev window : After-capped-end → List ℕ
window c = take c.capped-end.result c.args.w

whole : (c : After-capped-end) →
    (length (window c) ≡ c.capped-end.result) × (window c ≡ take c.args.n c.args.w)
whole c = capped_window c.args.w c.args.n 16 _ (search rules) c.capped-end.ensures

-- what the comparison tells
says : (c : After-compare) (k : Ordering) → c.compare.result ≡ k →
    let p = c.before.before in
    Told (rotation (window p.before) 0) (rotation (window p.before) p.loop-i.i) k
says c k e = told _ _ k (sym c.compare.ensures ∙ e)

pub loop-i-init : goal.loop-i-init
loop-i-init c = (omega arith, first_one downward (window c))

pub returns-in-Less : goal.returns-in-Less
returns-in-Less c = let r = (goal.at.returns-in-Less c).After-compare in
    let p = r in
    own_behind (window (goal.at.returns-in-Less c).After-capped-end) p.loop-i.i (omega (arith, (whole (goal.at.returns-in-Less c).After-capped-end).0)) (says r Less c.in-Less.is)
    ∙ ap own_standing (whole (goal.at.returns-in-Less c).After-capped-end).1

pub returns-in-Equal : goal.returns-in-Equal
returns-in-Equal c = let r = (goal.at.returns-in-Equal c).After-compare in
    let p = r in
    let w = window (goal.at.returns-in-Equal c).After-capped-end in
    let i = p.loop-i.i in
    let again = found_again true w 0 i p.loop-i.invariant.1 (omega (arith, (whole (goal.at.returns-in-Equal c).After-capped-end).0)) (sym (says r Equal c.in-Equal.is)) in
    let turns : i - 0 ≡ i = omega arith in
    own_greatest w i (subst (Found true w 1) turns again) ∙ ap own_standing (whole (goal.at.returns-in-Equal c).After-capped-end).1

pub loop-i-preserved : goal.loop-i-preserved
loop-i-preserved c = let r = (goal.at.loop-i-preserved c).After-compare in
    let p = r in
    (omega arith, first_stays downward (window (goal.at.loop-i-preserved c).After-capped-end) 0 p.loop-i.i p.loop-i.invariant.1 (says r Greater c.in-Greater.is))

pub returns : goal.returns
returns c = let p = c in
    let q = (goal.at.returns c).After-capped-end in
    let once = found_once true (window q) 0 p.loop-i.i p.loop-i.invariant.1 (omega (arith, (whole q).0)) (omega (arith, (whole q).0)) in
    ap Some (sym (whole q).0) ∙ own_greatest (window q) (length (window q)) once ∙ ap own_standing (whole q).1
