use mathlib.Core.Path.{◌≡◌, refl, ap, ◌∙◌}
use native.Mathlib.Omega.{arith}
use lib.ListN.{length, get_or, take}
use borrow.Author.Rules.{rules}
use Rattle.weak_orders.proofs.Padded.{padded_nil}
use Rattle.filling.specs.Choice.{height_for}
use Rattle.filling.proofs.Laws.{fillable_room}
use Rattle.filling.proofs.Steps.{filled_start, filled_next, filled_end}
use Rattle.filling.proofs.Pattern.earliest.Goals as goal

pub loop-i-init : goal.loop-i-init
loop-i-init c = let p = c.args.self in
    let l : length p.bytes ≡ 16 = search rules in
    (refl, filled_start p.n p.bytes _ l padded_nil (fillable_room p.n (take p.n p.bytes) p.allowed c.requires))

pub loop-i-preserved : goal.loop-i-preserved
loop-i-preserved c =
    let (same, filled) = c.loop-i.invariant in
    let w = c.loop-i.self.0 in
    let height = c.height_for-h.ensures ∙ ap (λ n. height_for (take n w) (get_or w c.loop-i.i 0)) same in
    (same, filled_next _ c.args.self.short _ _ _ _ filled (omega arith) _ height)

pub returns : goal.returns
returns c = filled_end _ c.args.self.short _ _ _ _ c.loop-i.invariant.1 (omega (arith, c.loop-i.invariant.0))
