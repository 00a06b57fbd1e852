-- `wko_previous_symbol`: the slice's own. Assumes nothing.
use mathlib.Core.Path.{ap, ◌∙◌}
use Rattle.successors.specs.NextSymbol.{next_number}
use Rattle.wko.specs.Calls.{symbol_call, previous_symbol_call}
use Rattle.wko.proofs.Cases.{previous_slice}
use Rattle.wko.proofs.wko_previous_symbol.Goals as goal

pub returns : goal.returns
unfolding symbol_call previous_symbol_call
returns c =
    let a = c.args in
    let (symbol, post, told) = c.symbol_beside.ensures in
    told ∙ ap next_number (post.1 ∙ previous_slice a.n a.rule a.window.now)
