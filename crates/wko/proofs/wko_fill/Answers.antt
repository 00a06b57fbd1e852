use native.Mathlib.Omega.{arith}
use mathlib.Core.Path.{ap, ◌∙◌}
use Rattle.wko.specs.Calls.{window_given, fill_call}
use Rattle.wko.proofs.Cases.{fill_most}
use Rattle.wko.proofs.wko_fill.Goals as goal

pub give-requires : goal.give-requires
give-requires c = (omega arith, rw c.filling_of.ensures (fill_most c.args.n c.args.pattern.now))

pub returns : goal.returns
unfolding fill_call
returns c = let a = c.args in c.give.ensures ∙ ap (λ x. window_given a.n x a.out.now) c.filling_of.ensures
