-- `rotation`: the slice's own. Assumes nothing.
use mathlib.Core.Path.{◌≡◌, ◌∙◌}
use Rattle.successors.specs.RotationUnder.{rotation_answer}
use Rattle.wko.proofs.Cases.{rotation_slice, rotation_small}
use Rattle.wko.proofs.rotation.Goals.{After-rotation_under}
use Rattle.wko.proofs.rotation.Goals as goal

own : (c : After-rotation_under) → let a = c.args in c.rotation_under.result ≡ rotation_answer a.rule a.n a.window.now
own c = let a = c.args in
    c.rotation_under.ensures ∙ rw (c.rule_number.ensures, c.load-w.ensures) (rotation_slice a.n a.rule a.window.now)

pub returns : goal.returns
returns c = record { value = own c; small = rw (own c) (rotation_small c.args.rule c.args.n c.args.window.now) }
