-- `wko_rank_to_height`: the conversion of the slice's window, given. Assumes nothing.
use native.Mathlib.Omega.{arith}
use mathlib.Core.Path.{◌≡◌, ap, ◌∙◌}
use Rattle.weak_orders.specs.Converted.{rank_to_height}
use Rattle.wko.specs.Calls.{window_given, rank_to_height_call}
use Rattle.wko.proofs.Cases.{rank_slice, rank_most}
use Rattle.wko.proofs.wko_rank_to_height.Goals.{After-rank_to_height}
use Rattle.wko.proofs.wko_rank_to_height.Goals as goal

own : (c : After-rank_to_height) → let a = c.args in c.rank_to_height.result ≡ rank_to_height a.n a.window.now
own c = let a = c.args in c.rank_to_height.ensures ∙ rw c.load-w.ensures (rank_slice a.n a.window.now)

pub give-requires : goal.give-requires
give-requires c = (omega arith, rw (own (goal.at.give-requires c).After-rank_to_height) (rank_most c.args.n c.args.window.now))

pub returns : goal.returns
unfolding rank_to_height_call
returns c = let a = c.args in c.give.ensures ∙ ap (λ x. window_given a.n x a.out.now) (own (goal.at.returns c).After-rank_to_height)
