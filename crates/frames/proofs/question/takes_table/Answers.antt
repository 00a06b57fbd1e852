-- `takes_table` meets its contract, by those of its callees. Assumes nothing.
use mathlib.Core.Path.{ap, ◌∙◌}
use Rattle.levels.specs.Level.{on_table}
use Rattle.frames.specs.Question.{takes_table}
use Rattle.frames.proofs.question.takes_table.Goals as goal

pub returns : goal.returns
unfolding takes_table
returns c = c.on_table.ensures ∙ ap on_table c.setting_in.ensures
