-- `no_round` meets its contract. Assumes nothing.
use Rattle.printing.proofs.no_round.Goals as goal

pub returns : goal.returns
returns c = rw c.setting_of.ensures
