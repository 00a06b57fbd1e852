use mathlib.Core.List.{List}
use mathlib.Core.Path.{◌≡◌, refl, sym, subst, ◌∙◌}
use Prim.Native.Nat.{ℕ, ◌+◌, ◌-◌}
use native.Mathlib.Omega.{arith}
use borrow.Author.Rules.{rules}
use lib.ListN.{length, take}
use Rattle.weak_orders.proofs.Tests.{false→not_true}
use Rattle.weak_orders.proofs.Parts.{capped_window}
use Rattle.rotations.specs.Rotation.{rotation}
use Rattle.std.specs.declared.cmp.Ordering.{Ordering}
use Rattle.std.specs.declared.cmp.Ordering.TheVariants.{Equal}
use Rattle.std.specs.Ordering.{is_gt}
use Rattle.rotations.proofs.Compared.{Told, told, says_answer}
use Rattle.rotations.proofs.RotationSearch.{better_moves, worse_stays, first_one, first_stays, first_moves, order_of, Found, found_again, found_once}
use Rattle.rotations.proofs.search.Goals.{After-capped-end, After-compare-place}
use Rattle.rotations.proofs.search.Goals.{then-eq-2, else-eq-2}
use Rattle.rotations.proofs.search.Goals as goal

-- the window, and that it is all that was handed in
abbrev window : After-capped-end → List ℕ
window c = take c.capped-end.result c.args.w

whole : (c : After-capped-end) →
    (length (window c) ≡ c.capped-end.result) × (window c ≡ take c.args.n c.args.w)
whole c = capped_window c.args.w c.args.n 16 _ (search rules) c.capped-end.ensures

-- what the comparison tells
says : (c : After-compare-place) (k : Ordering) → c.compare-place.result ≡ k →
    let p = c.before.before in
    Told (rotation (window p.before) p.loop-j.j) (rotation (window p.before) p.loop-j.best) k
says c k e = told _ _ k (sym c.compare-place.ensures ∙ e)

pub loop-j-init : goal.loop-j-init
loop-j-init c = (omega arith, first_one (order_of (is_gt c.args.better)) (window c))

pub returns-then-eq : goal.returns-then-eq
returns-then-eq c =
    let r = (goal.at.returns-then-eq c).After-compare-place in
    let q = (goal.at.returns-then-eq c).After-capped-end in
    let g = is_gt c.args.better in
    let m = c.loop-j.best in
    let j = c.loop-j.j in
    subst (λ u. Found g u (m + 1) (j - m)) (whole q).1
    (found_again g (window q) m j c.loop-j.invariant.1 (omega (arith, (whole q).0)) (says r Equal ((says_answer _ Equal).to (sym c.eq.ensures ∙ c.if-eq.true))))

pub loop-j-preserved : goal.loop-j-preserved
loop-j-preserved c =
    let r = (goal.at.loop-j-preserved c).After-compare-place in
    let w = window (goal.at.loop-j-preserved c).After-capped-end in
    let better = c.args.better in
    let u = rotation w c.loop-j.j in
    let v = rotation w c.loop-j.best in
    let ne = c.requires in (
      omega arith,
      elim c.if-eq-2.branch [
        | then-eq-2 b ↦ rw b.best-is (first_moves (order_of (is_gt better)) w c.loop-j.best c.loop-j.j c.loop-j.invariant.1 (better_moves better u v ne (says r better ((says_answer _ better).to (sym c.eq-in-loop-j.ensures ∙ b.if-eq-2.true)))))
        | else-eq-2 b ↦ rw b.best-is (first_stays (order_of (is_gt better)) w c.loop-j.best c.loop-j.j c.loop-j.invariant.1 (worse_stays better c.compare-place.result u v ne (λ e. false→not_true _ c.if-eq.false (c.eq.ensures ∙ (says_answer _ Equal).of e)) (λ e. false→not_true _ b.if-eq-2.false (c.eq-in-loop-j.ensures ∙ (says_answer _ better).of e)) (says r _ refl)))
      ],
    )

pub returns : goal.returns
returns c =
    let q = (goal.at.returns c).After-capped-end in
    let g = is_gt c.args.better in
    let m = c.loop-j.best in
    let n = (whole q).0 in
    subst (λ u. Found g u (m + 1) q.capped-end.result) (whole q).1
    (subst (Found g (window q) (m + 1)) n (found_once g (window q) m c.loop-j.j c.loop-j.invariant.1 (omega arith) (omega arith)))
