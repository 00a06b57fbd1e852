-- What `tally_of` answers for every rule and n: both numbers for the three rules and n from 1 to 8, zeros elsewhere.
use Rattle.std.specs.Prelude.{cond, ◌&&◌, ℕ, leb}
use Rattle.successors.specs.Rules.{is_rule}
use Rattle.rotating_steps.specs.Kinds.{same, other}
use Rattle.rotating_steps.specs.declared.Tally.{Tally}

unfoldable pub tallied : ℕ → ℕ → Tally
unfolding is_rule same other
tallied r n = cond (is_rule r && (leb 1 n && leb n 8)) (record { same = same r n; other = other r n }) (record { same = 0; other = 0 })
