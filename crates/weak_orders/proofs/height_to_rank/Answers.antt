-- `height_to_rank`: refused as the window is judged, or the window converted. Assumes nothing.
use mathlib.Core.Path.{◌≡◌, sym, ◌∙◌}
use lib.ListN.{length, take}
use borrow.Author.Rules.{rules}
use Rattle.std.proofs.lemmas.Result.{err_from_is_err_and}
use Rattle.weak_orders.specs.Converted.{is_height_window, judged_in, answered, height_to_rank}
use Rattle.weak_orders.specs.Window.{is_height}
use Rattle.weak_orders.proofs.FormTests.{says_length}
use Rattle.weak_orders.proofs.Judged.{judged_array, accepted_by}
use Rattle.weak_orders.proofs.height_to_rank.Goals.{After-judge}
use Rattle.weak_orders.proofs.height_to_rank.Goals as goal

-- the verdict on the window
told : (c : After-judge) → let a = c.args in c.judge.result ≡ judged_in is_height a.n (take a.n a.w)
unfolding is_height_window
told c =
    let a = c.args in
    let l : length a.w ≡ 16 = search rules in
    c.judge.ensures ∙ rw c.is_height.ensures (judged_array is_height a.n a.w l)

pub returns-in_err-judge : goal.returns-in_err-judge
unfolding height_to_rank answered
returns-in_err-judge c =
    let p = err_from_is_err_and c.from_residual.result c.from_residual.ensures.1 in
    rw (p.1, p.2, sym (told (goal.at.returns-in_err-judge c).After-judge) ∙ c.in_err-judge.was)

pub ranks_of-requires : goal.ranks_of-requires
ranks_of-requires c = ((says_length _).to (accepted_by _ _ (sym c.judge.ensures ∙ c.in_ok-judge.was)).0).1

pub returns : goal.returns
unfolding height_to_rank answered
returns c = rw (sym (told (goal.at.returns c).After-judge) ∙ c.in_ok-judge.was, c.ranks_of.ensures)
