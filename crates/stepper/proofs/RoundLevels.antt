-- The levels of a session that counts as begun, by what tests 6 to 9 say of it. Assumes nothing.
use native.Mathlib.Omega.{arith}
use lib.ListN.{take, length-take}
use Rattle.levels.proofs.WindowLevels.{levels_within}
use Rattle.stepper.specs.RoundLevels.{RoundLevels}
use Rattle.stepper.proofs.Begun.{says_begun}

pub round_levels : RoundLevels
round_levels s b =
    let r = ((says_begun s).to b).round in
    levels_within s.n s.rule s.setting (take s.n s.window) r.high r.levels (omega (arith, length-take s.n s.window)) r.form
