-- `wko_window_at`: the window at a place, given. Assumes nothing.
use native.Mathlib.Omega.{arith}
use mathlib.Core.Path.{ap, ◌∙◌}
use Rattle.wko.specs.Calls.{window_given, window_at_call}
use Rattle.wko.proofs.Cases.{located_most}
use Rattle.wko.proofs.wko_window_at.Goals as goal

pub give-requires : goal.give-requires
give-requires c = (omega arith, rw c.window_at.ensures (located_most c.args.n c.args.place))

pub returns : goal.returns
unfolding window_at_call
returns c = let a = c.args in c.give.ensures ∙ ap (λ x. window_given a.n x a.out.now) c.window_at.ensures
