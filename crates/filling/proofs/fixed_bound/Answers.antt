use Prim.Native.Nat.{◌-◌}
use native.Mathlib.Omega.{arith}
use native.Mathlib.Decide.{ℕ_discrete}
use borrow.Author.Rules.{rules}
use Rattle.filling.proofs.Scans.{bound_to, bound_past}
use Rattle.filling.proofs.fixed_bound.Goals as goal

pub loop-v-init : goal.loop-v-init
loop-v-init c = λ u ge lt. absurd (omega arith)

pub returns-then-t-v-ne0 : goal.returns-then-t-v-ne0
returns-then-t-v-ne0 c = let p = c.loop-v in
    let n = c.args.n in
    let few = c.requires in (
      omega arith,
      λ q t e. omega (
        arith,
        bound_to n q few t _ e p.v p.invariant,
        bound_past n q few t _ e (p.v - 1) (omega arith) c.if-t-v-ne0.true,
      ),
    )

pub loop-v-preserved : goal.loop-v-preserved
loop-v-preserved c = let p = c.loop-v in
    λ u ge lt. elim (ℕ_discrete u (p.v - 1)) [
      | yes e ↦ rw e c.if-t-v-ne0.false
      | no ne ↦ p.invariant u (omega arith) lt
    ]

pub returns : goal.returns
returns c = let p = c.loop-v in
    let s = c in
    (search rules, λ q t e. omega (arith, bound_to s.args.n q s.requires t _ e p.v p.invariant))
