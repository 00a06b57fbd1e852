-- `begin_reply`: the reply by the form's test. Assumes nothing.
use mathlib.Core.Path.{◌≡◌, ap, ◌∙◌}
use Rattle.stepper.specs.Exchange.{reply_if}
use Rattle.stepper.proofs.Cases.{tested, reply_tested}
use Rattle.stepper.proofs.session.begin_reply.Goals as goal

pub returns : goal.returns
unfolding tested
returns c =
    let s = c.args.s in
    let e : c.in_form.result ≡ tested s = c.in_form.ensures in
    c.reply_if.ensures ∙ ap (reply_if s) e ∙ reply_tested s
