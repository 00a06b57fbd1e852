-- `level` meets its contract, by those of its callees. Assumes nothing.
use mathlib.Core.Path.{◌≡◌, sym, ap, ◌∙◌}
use Prim.Native.Nat.{◌<◌, ◌^◌}
use native.Mathlib.Omega.{arith}
use mir.Facts.{to_z-of_z}
use mir.Syntax.{w16, w32}
use mir.Val.{SFits, to_z, of_z}
use borrow.Author.Rules.{rules, sfits_of}
use Rattle.levels.specs.Level.{spacings, lowered, entry, level_at, level_of}
use Rattle.levels.proofs.Sizes.{spacings_small, lowered_size}
use Rattle.levels.proofs.level.Goals.{After-lowered}
use Rattle.levels.proofs.level.Goals as goal

pub returns-then-on_table : goal.returns-then-on_table
unfolding level_of level_at
returns-then-on_table c = let t = c in
    let s = t.args.setting in
    let on = sym t.on_table.ensures ∙ c.if-on_table.true in
    rw (to_z-of_z (sfits_of {w = w32} c.entry.type_inv), on) (c.entry.ensures ∙ ap (entry s.table) t.spacings_of-d.ensures)

-- what `lowered` gave
exact : (c : After-lowered) → let a = c.args in
    to_z w32 (of_z w32 c.lowered.result) ≡ lowered a.setting (spacings a.rule a.symbol)
exact c = to_z-of_z (sfits_of {w = w32} c.lowered.type_inv) ∙ c.lowered.ensures ∙ ap (lowered _) c.spacings_of-d.ensures

pub rounded-requires : goal.rounded-requires
rounded-requires c = let a = c.args in
    let top : SFits w16 a.setting.top = search rules in
    let spacing : a.setting.spacing < 2 ^ 16 = search rules in
    let symbol : a.symbol < 2 ^ 8 = search rules in
    rw (exact c)
    (lowered_size a.setting _ (omega (arith, top.sfits)) (omega arith) (spacings_small a.rule a.symbol (omega arith)))

pub returns-else-on_table : goal.returns-else-on_table
unfolding level_of level_at
returns-else-on_table c = let off = sym c.on_table.ensures ∙ c.if-on_table.false in
    rw (to_z-of_z (sfits_of {w = w32} c.rounded.type_inv), off, c.rounded.ensures, exact (goal.at.returns-else-on_table c).After-lowered)
