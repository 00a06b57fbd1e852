-- `wko_height_to_rank`: the conversion of the slice's window, given. Assumes nothing.
use native.Mathlib.Omega.{arith}
use mathlib.Core.Path.{◌≡◌, ap, ◌∙◌}
use Rattle.weak_orders.specs.Converted.{height_to_rank}
use Rattle.wko.specs.Calls.{window_given, height_to_rank_call}
use Rattle.wko.proofs.Cases.{height_slice, height_most}
use Rattle.wko.proofs.wko_height_to_rank.Goals.{After-height_to_rank}
use Rattle.wko.proofs.wko_height_to_rank.Goals as goal

own : (c : After-height_to_rank) → let a = c.args in c.height_to_rank.result ≡ height_to_rank a.n a.window.now
own c = let a = c.args in c.height_to_rank.ensures ∙ rw c.load-w.ensures (height_slice a.n a.window.now)

pub give-requires : goal.give-requires
give-requires c = (omega arith, rw (own (goal.at.give-requires c).After-height_to_rank) (height_most c.args.n c.args.window.now))

pub returns : goal.returns
unfolding height_to_rank_call
returns c = let a = c.args in c.give.ensures ∙ ap (λ x. window_given a.n x a.out.now) (own (goal.at.returns c).After-height_to_rank)
