-- `ends_line`: an empty text has no last byte. Assumes nothing.
use mathlib.Core.Path.{refl, ◌∙◌}
use Rattle.faults.proofs.TextTests.{last_looked}
use Rattle.faults.proofs.ends_line.Goals as goal

pub returns : goal.returns
returns c = c.eq.ensures ∙ last_looked c.args.text.now c.last.result _ c.last.ensures.value refl
