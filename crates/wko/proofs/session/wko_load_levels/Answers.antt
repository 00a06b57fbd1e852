-- `wko_load_levels`: what handler's call gives, with the reply as a number. Assumes nothing.
use mathlib.Core.Path.{ap}
use Rattle.wko.specs.SessionCalls.{loaded_for_c, load_call}
use Rattle.wko.proofs.session.wko_load_levels.Goals as goal

pub returns : goal.returns
unfolding load_call
returns c = rw (c.from.ensures, c.number.ensures) (ap loaded_for_c c.load_levels-loaded.ensures)
