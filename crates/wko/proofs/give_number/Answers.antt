-- `give_number`: its eight bytes. Assumes nothing.
use mathlib.Core.Path.{ap, ◌∙◌}
use Rattle.frames.specs.Fields.{bytes64}
use Rattle.wko.specs.Calls.{window_given}
use Rattle.wko.proofs.Cases.{mapped_from, whole_bytes}
use Rattle.wko.proofs.give_number.Goals as goal

pub returns : goal.returns
returns c =
    let a = c.args in
    c.give.ensures ∙ ap (λ x. window_given 8 x a.out.now) (mapped_from bytes64 a.x _ c.map.ensures.cases) ∙ whole_bytes a.x a.out.now
