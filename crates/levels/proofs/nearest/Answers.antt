-- `nearest` meets its contract: the sum does not wrap, and neither does the product. Assumes nothing.
use mathlib.Core.Path.{refl}
use Rattle.levels.specs.Level.{nearest}
use Rattle.levels.proofs.nearest.Goals as goal

pub returns : goal.returns
unfolding nearest
returns c = refl
