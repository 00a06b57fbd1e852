use lib.ListN.{drop, length-drop}
use native.Mathlib.Omega.{arith}
use mathlib.Core.Path.{◌≡◌, sym, ap, ◌∙◌}
use Prim.Native.Nat.{◌+◌}
use Rattle.decimals.specs.Held.{taken_as, taken, numbers_of}
use Rattle.decimals.specs.Reading.{found, number}
use Rattle.decimals.proofs.Answers.{found_taken, not_as, number_bounds, starts_within}
use Rattle.decimals.proofs.Cursors.{part_from}
use Rattle.decimals.proofs.Gathering.{gathered_none, gathered_full, gathered_missing, gathered_last, gathered_on}
use Rattle.decimals.proofs.numbers.Goals.{In_ok-value}
use Rattle.decimals.proofs.numbers.Goals as goal

-- what was found, where a decimal was
read : (c : In_ok-value) → number (drop c.loop-i.at c.args.s.now) ≡ found c.in_ok-value.field-0.value c.in_ok-value.field-0.len
read c = found_taken _ (c.in_ok-value.ensures ∙ ap (λ t. taken (number t)) (part_from c.args.s.now c.loop-i.at))

pub loop-i-init : goal.loop-i-init
loop-i-init c = gathered_none _

pub returns-in_err-value : goal.returns-in_err-value
returns-in_err-value c =
    let l = c.loop-i in
    let s = c.args.s.now in
    let e = not_as (λ x. x) (number (drop l.at s)) (c.in_err-value.ensures ∙ ap (λ t. taken (number t)) (part_from s l.at)) in
    c.from_residual.ensures ∙ ap (taken_as numbers_of) (sym (gathered_missing s l.values l.i l.at l.invariant c.loop-i-test.true e))

pub overflow_add-at : goal.overflow_add-at
overflow_add-at c = record { fits = omega (arith, number_bounds _ (read (goal.at.overflow_add-at c).In_ok-value), length-drop c.loop-i.at c.args.s.now) }

pub returns-then-not-starts_with : goal.returns-then-not-starts_with
returns-then-not-starts_with c =
    let l = c.loop-i in
    sym (gathered_last c.args.s.now l.values l.i l.at l.invariant c.loop-i-test.true (read (goal.at.returns-then-not-starts_with c).In_ok-value) (sym c.if-not-starts_with.ensures))

pub overflow_add-at-in-loop-i : goal.overflow_add-at-in-loop-i
overflow_add-at-in-loop-i c =
    record { fits = omega (arith, starts_within 44 c.args.s.now (c.loop-i.at + c.in_ok-value.field-0.len) (sym c.if-not-starts_with.ensures)) }

pub loop-i-preserved : goal.loop-i-preserved
loop-i-preserved c =
    let l = c.loop-i in
    gathered_on c.args.s.now l.values l.i l.at l.invariant c.loop-i-test.true (read (goal.at.loop-i-preserved c).In_ok-value) (sym c.if-not-starts_with.ensures)

pub returns : goal.returns
returns c =
    let l = c.loop-i in
    ap (taken_as numbers_of) (sym (gathered_full _ l.values l.i l.at l.invariant c.loop-i-test.false))
