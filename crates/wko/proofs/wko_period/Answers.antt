-- `wko_period`: the number of the rotation. Assumes nothing.
use borrow.Author.Rules.{rules}
use mathlib.Core.Path.{◌≡◌, ap, ◌∙◌}
use Rattle.rotations.specs.declared.Rotation.{Rotation}
use Rattle.successors.specs.NextSymbol.{next_number}
use Rattle.wko.specs.Calls.{mapped, period_call}
use Rattle.wko.proofs.Cases.{mapped_from}
use Rattle.wko.proofs.wko_period.Goals as goal

pub returns : goal.returns
unfolding period_call
returns c =
    let number : Rotation → _ = λ r. r.period in
    let found : c.map.result ≡ mapped number c.rotation.result = search (rules, mapped_from) in
    c.answer.ensures ∙ ap next_number (found ∙ ap (mapped number) c.rotation.ensures.value)
