use borrow.Author.Rules.{rules}
use native.Mathlib.Omega.{arith}
use mathlib.Core.Bool.{true}
use mathlib.Core.Path.{◌≡◌, sym, ◌∙◌}
use Prim.Native.Nat.{◌-◌, ◌≤◌, ◌<◌}
use lib.IntN.{pos}
use lib.ListN.{length, get_or}
use mir.Syntax.{w8, w16}
use mir.Val.{Fits, SFits}
use Rattle.weak_orders.proofs.Tests.{says_and, says_lt, says_le}
use Rattle.successors.specs.NextSymbol.{steppable}
use Rattle.successors.proofs.Steppable.{says_steppable}
use Rattle.levels.proofs.Sizes.{entry_fits}
use Rattle.printing.specs.Printing.{over, page_in, laid_out, next_page}
use Rattle.printing.proofs.Written.{counts}
use Rattle.printing.proofs.Filling.{onward_sized, onward_left, filled, filling_none, filling_on}
use Rattle.printing.proofs.Filling.{filling_over}
use Rattle.printing.proofs.Widths.{Held, last_line_width}
use Rattle.printing.proofs.next_page.Goals.{After-onward-now, Else-not-can_step, In-loop-now}
use Rattle.printing.proofs.next_page.Goals as goal

stepped : (c : Else-not-can_step) → let p = c.args.p in steppable p.round.rule p.round.n p.round.window ≡ true
stepped c = sym c.can_step.ensures ∙ c.if-not-can_step.false

-- what the loop's test says
test : (c : In-loop-now) → let l = c.loop-now in (l.now.done < l.now.last) × (128 ≤ length l.out - l.len)
test c = let l = c.loop-now in (says_and (says_lt l.now.done l.now.last) (says_le 128 (length l.out - l.len))).to c.loop-now-test.true

-- what the next state can hold, and so its line has room
held : (c : After-onward-now) → Held c.onward-now.result
held c =
    let t : SFits w16 c.onward-now.result.round.setting.top = search rules in
    record {
      done = search rules;
      top = omega (arith, t.sfits);
      spacing = search rules;
      entries = λ d. let h : SFits w16 (get_or c.onward-now.result.round.setting.table d (pos 0)) = search (rules, entry_fits) in omega (arith, h.sfits);
      long = search rules;
      symbols = λ i. let h : Fits w8 (get_or c.onward-now.result.round.window i 0) = search rules in h.fits;
    }

pub returns-then-not-can_step : goal.returns-then-not-can_step
unfolding next_page page_in laid_out over
returns-then-not-can_step c =
    let no = sym c.can_step.ensures ∙ c.if-not-can_step.true in
    record { out_after = rw no; within = (search rules, search rules) }

pub loop-now-init : goal.loop-now-init
loop-now-init c = let s = c in
    let long : length s.args.p.round.window ≡ 16 = search rules in
    filling_none s.args.p s.args.out.now ((says_steppable s.args.p.round.rule s.args.p.round.n s.args.p.round.window).to (stepped c)) long

pub overflow_sub-out : goal.overflow_sub-out
overflow_sub-out c = omega (arith, filled c.loop-now.invariant)

pub onward-now-requires : goal.onward-now-requires
onward-now-requires c = let l = c.loop-now in ((says_steppable l.now.round.rule l.now.round.n l.now.round.window).of l.invariant.steps, (test c).0)

pub put_line-len-requires : goal.put_line-len-requires
put_line-len-requires c = let o = (goal.at.put_line-len-requires c).After-onward-now in
    let l = o.loop-now in (
      onward_sized l.now o.onward-now.result o.onward-now.ensures l.invariant.steps,
      omega (arith, last_line_width o.onward-now.result (held o), test (goal.at.put_line-len-requires c).In-loop-now),
    )

pub loop-now-smaller : goal.loop-now-smaller
loop-now-smaller c = let o = c in
    let now = o.loop-now.now in
    omega (arith, onward_left now o.onward-now.result o.onward-now.ensures (test (goal.at.loop-now-smaller c).In-loop-now).0)

pub loop-now-preserved : goal.loop-now-preserved
loop-now-preserved c = let w = c in
    let o = (goal.at.loop-now-preserved c).After-onward-now in
    let l = o.loop-now in
    let (more, room) = test (goal.at.loop-now-preserved c).In-loop-now in
    filling_on l.invariant o.onward-now.result o.onward-now.ensures more room (last_line_width o.onward-now.result (held o)) w.put_line-len.ensures

pub shape_of-out : goal.shape_of-out
shape_of-out c = (filled c.loop-now.invariant).1

pub returns : goal.returns
returns c = let l = c.loop-now in
    record {
      out_after = filling_over l.invariant (stepped (goal.at.returns c).Else-not-can_step) c.loop-now-test.false;
      within = counts l.out l.len (omega (arith, filled l.invariant));
    }
