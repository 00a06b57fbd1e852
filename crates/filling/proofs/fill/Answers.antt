-- `fill`: refused for a test, or filled. Assumes nothing.
use mathlib.Core.Path.{◌≡◌, sym, ◌∙◌}
use lib.ListN.{take}
use Rattle.std.proofs.lemmas.Result.{err_from_is_err_and}
use Rattle.weak_orders.specs.Converted.{answered}
use Rattle.weak_orders.proofs.FormTests.{says_length}
use Rattle.filling.specs.Answers.{judged_pattern, fill_answer}
use Rattle.filling.specs.Pattern.{fillable}
use Rattle.filling.proofs.Laws.{just_if}
use Rattle.filling.proofs.fill.Goals.{After-has_room}
use Rattle.filling.proofs.fill.Goals as goal

pub returns-in_err-p : goal.returns-in_err-p
unfolding fill_answer answered
returns-in_err-p c =
    let p = err_from_is_err_and c.from_residual.result c.from_residual.ensures.1 in
    rw (p.1, p.2, c.in_err-p.ensures.refused)

-- the third test, by the numbers that are compared
counted : (c : After-has_room) → let p = c.in_ok-p.p in fillable p.n (take p.n p.bytes) ≡ c.has_room.result
counted c =
    let p = c.in_ok-p.p in
    just_if _ _ p.short p.allowed ∙ sym c.has_room.ensures

pub returns-then-not-has_room : goal.returns-then-not-has_room
unfolding fill_answer answered judged_pattern
returns-then-not-has_room c =
    let p = c.in_ok-p.p in
    let (bytes, n) = c.in_ok-p.ensures.held in
    rw (← bytes, ← n, (says_length _).of (p.some, p.short), p.allowed, counted (goal.at.returns-then-not-has_room c).After-has_room ∙ c.if-not-has_room.true)

pub earliest-requires : goal.earliest-requires
earliest-requires c = counted (goal.at.earliest-requires c).After-has_room ∙ c.if-not-has_room.false

pub returns : goal.returns
unfolding fill_answer answered judged_pattern
returns c =
    let p = c.in_ok-p.p in
    let (bytes, n) = c.in_ok-p.ensures.held in
    rw (← bytes, ← n, (says_length _).of (p.some, p.short), p.allowed, counted (goal.at.returns c).After-has_room ∙ c.if-not-has_room.false, c.earliest.ensures)
