-- `walk`: refused as the window is judged, or the newest symbol after the steps. Assumes nothing.
use mathlib.Core.Path.{◌≡◌, sym, ap, ◌∙◌}
use Prim.Native.Nat.{◌-◌, ◌≤◌}
use native.Mathlib.Omega.{arith}
use lib.ListN.{get_or}
use Rattle.weak_orders.proofs.FormTests.{says_length}
use Rattle.successors.specs.NextSymbol.{judged, answer_by}
use Rattle.successors.proofs.Steppable.{steppable_of, judged-loaded}
use Rattle.walk.specs.Walk.{walked}
use borrow.Author.Rules.{rules}
use Rattle.walk.proofs.walk.Goals.{After-judge, In-Ok}
use Rattle.walk.proofs.walk.Goals as goal

-- the verdict on the slice itself
told : (c : After-judge) → let a = c.args in c.judge.result ≡ judged a.rule a.n a.window.now
told c =
    let a = c.args in
    c.judge.ensures ∙ rw c.load-w.ensures (judged-loaded a.rule a.n a.window.now)

sized : (c : In-Ok) → let n = c.args.n in (1 ≤ n) × (n ≤ 16)
sized c =
    let a = c.args in
    let w = c.load-w.result in
    (says_length a.n).to (steppable_of a.rule a.n w (search rules) (sym c.judge.ensures ∙ c.in-Ok.is)).1.0

pub overflow_sub-n : goal.overflow_sub-n
overflow_sub-n c = omega (arith, sized (goal.at.overflow_sub-n c).In-Ok)

pub bounds-steps-n : goal.bounds-steps-n
bounds-steps-n c = omega (arith, sized (goal.at.bounds-steps-n c).In-Ok)

pub returns-in-Ok : goal.returns-in-Ok
unfolding walked answer_by
returns-in-Ok c = let j = (goal.at.returns-in-Ok c).After-judge in
    let n = j.args.n in
    rw (sym (told j) ∙ c.in-Ok.is, ← j.load-w.ensures) (c.from.ensures ∙ ap (λ v. get_or v (n - 1) 0) c.steps.ensures)

pub returns-in-Err : goal.returns-in-Err
unfolding walked answer_by
returns-in-Err c =
    rw (sym (told (goal.at.returns-in-Err c).After-judge) ∙ c.in-Err.is, c.from-in-Err-2.ensures, c.from-in-Err.ensures)
