-- `ranking::none_missing` meets its contract: a power, and none is too large. Assumes nothing.
use mathlib.Core.Path.{sym, ◌∙◌}
use native.Mathlib.Omega.{arith}
use Rattle.ranking.proofs.CountLaws.{ways-powers}
use Rattle.ranking.proofs.Size.{ways_small}
use Rattle.ranking.proofs.none_missing.Goals as goal

pub pow-requires : goal.pow-requires
pow-requires c = let a = c.args in
    omega (arith, ways-powers a.rest a.present, ways_small a.rest 0 a.present (omega arith))

pub returns : goal.returns
returns c = c.pow.ensures ∙ sym (ways-powers c.args.rest c.args.present)
