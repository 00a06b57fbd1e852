-- `wko_count`: the count, given. Assumes nothing.
use mathlib.Core.Path.{ap, ◌∙◌}
use Rattle.wko.specs.Calls.{number_given, count_call}
use Rattle.wko.proofs.wko_count.Goals as goal

pub returns : goal.returns
unfolding count_call
returns c = c.give_number.ensures ∙ ap (λ x. number_given x c.args.out.now) c.count.ensures
