-- `window_at`: refused where there is no such place, or the window there. Assumes nothing.
use mathlib.Core.Path.{sym, ◌∙◌}
use Rattle.std.proofs.lemmas.Result.{err_from_is_err_and}
use Rattle.weak_orders.specs.Converted.{answered}
use Rattle.ranking.specs.Answers.{located}
use Rattle.ranking.proofs.Answered.{place-uncounted, place_past, place-below, place_within}
use Rattle.ranking.proofs.window_at.Goals as goal

pub returns-in_err-count : goal.returns-in_err-count
unfolding located answered
returns-in_err-count c =
    let p = err_from_is_err_and c.from_residual.result c.from_residual.ensures.1 in
    rw (p.1, p.2, place-uncounted c.args.n c.args.place _ (sym c.count.ensures ∙ c.in_err-count.was))

pub returns-then-branch-place : goal.returns-then-branch-place
unfolding located answered
returns-then-branch-place c = let a = c.args in
    rw (place_past a.n a.place _ (sym c.count.ensures ∙ c.in_ok-count.was) c.if-branch-place.true)

pub window_of-requires : goal.window_of-requires
window_of-requires c = place-below c.args.n c.args.place _ (sym c.count.ensures ∙ c.in_ok-count.was) c.if-branch-place.false

pub returns : goal.returns
unfolding located answered
returns c = let a = c.args in
    rw (place_within a.n a.place _ (sym c.count.ensures ∙ c.in_ok-count.was) c.if-branch-place.false, c.window_of.ensures)
