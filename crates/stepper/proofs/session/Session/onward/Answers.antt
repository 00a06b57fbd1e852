-- `Session::onward`: the window shifted is the window stepped. Assumes nothing.
use Rattle.successors.specs.Rules.{step}
use Rattle.stepper.specs.Exchange.{onward}
use Rattle.stepper.proofs.session.Session.onward.Goals as goal

pub returns : goal.returns
unfolding onward step
returns c =
    let (long, symbol, next) = c.requires in
    rw (c.shift-next.ensures, long, symbol, next)
