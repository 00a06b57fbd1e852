-- `Session::has_begun`: by the form's test. Assumes nothing.
use mathlib.Core.Path.{◌≡◌, ap, ◌∙◌}
use Rattle.stepper.specs.Exchange.{begun_if}
use Rattle.stepper.proofs.Cases.{tested, begun_tested}
use Rattle.stepper.proofs.session.Session.has_begun.Goals as goal

pub returns : goal.returns
unfolding tested
returns c =
    let s = c.args.self in
    let e : c.in_form.result ≡ tested s = c.in_form.ensures in
    c.begun_if.ensures ∙ ap (begun_if s) e ∙ begun_tested s
