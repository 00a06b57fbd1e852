-- `missing`: the entries below the largest fixed height that are 0. Assumes nothing.
use mathlib.Core.Path.{◌≡◌, ap, ◌∙◌}
use Prim.Native.Nat.{◌-◌}
use lib.ListN.{length}
use borrow.Author.Rules.{rules}
use Rattle.weak_orders.specs.Window.{height}
use Rattle.filling.specs.Pattern.{fixed}
use Rattle.filling.proofs.Scans.{gaps_below, gaps_missing}
use Rattle.filling.proofs.missing.Goals as goal

pub returns : goal.returns
returns c = λ p t table.
    let a = c.args in
    let long : length a.t ≡ 18 = search rules in
    let v = c.fixed_bound.result in
    c.absent.ensures ∙ gaps_below a.n p c.requires t a.t table long v (search rules)
    ∙ ap (λ v. v - height (fixed p) v) (c.fixed_bound.ensures.1 p t table) ∙ gaps_missing p
