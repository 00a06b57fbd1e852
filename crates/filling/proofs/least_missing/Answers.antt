-- `least_missing`: the first entry that is 0. Assumes nothing.
use mathlib.Core.Path.{◌≡◌, ap, ◌∙◌}
use native.Mathlib.Omega.{arith}
use lib.Dec.{eqb}
use lib.ListN.{length, take}
use lib.Seq.{length-take-le}
use borrow.Author.Rules.{rules}
use Rattle.std.specs.Option.{unwrap_or}
use Rattle.filling.proofs.Scans.{position_or, first_gap}
use Rattle.filling.proofs.least_missing.Goals as goal

pub returns : goal.returns
returns c = λ p t table.
    let a = c.args in
    let long : length a.t ≡ 18 = search rules in
    c.unwrap_or.ensures ∙ ap (λ x. unwrap_or x a.n) c.first_absent.ensures
    ∙ position_or (λ c. eqb c 0) (take a.n a.t) a.n (length-take-le a.n a.t (omega (arith, c.requires)))
    ∙ first_gap a.n p c.requires t a.t table long
