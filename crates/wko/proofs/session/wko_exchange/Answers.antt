-- `wko_exchange`: what the frame call gives, with the reply as a number. Assumes nothing.
use mathlib.Core.Path.{ap}
use Rattle.wko.specs.SessionCalls.{for_c, exchange_call}
use Rattle.wko.proofs.session.wko_exchange.Goals as goal

pub returns : goal.returns
unfolding exchange_call
returns c = rw (c.from.ensures, c.number.ensures) (ap for_c c.exchange-exchanged.ensures)
