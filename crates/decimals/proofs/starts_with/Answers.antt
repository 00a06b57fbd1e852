-- `starts_with`: past the end there is no byte. Assumes nothing.
use native.Mathlib.Omega.{arith}
use mathlib.Core.Path.{◌∙◌}
use Rattle.decimals.proofs.Cursors.{starts_looked}
use Rattle.decimals.proofs.starts_with.Goals as goal

pub returns : goal.returns
returns c =
    let (some, _, _, _, value) = c.get.ensures.lookup in
    c.eq.ensures ∙ starts_looked c.args.s.now c.args.at c.get.result _ some (value (omega arith) 0)
