use mathlib.Core.Path.{◌≡◌, refl, sym, ap, ◌∙◌}
use Prim.Native.Nat.{ℕ, ◌+◌, ◌-◌, ◌<◌}
use native.Mathlib.Omega.{arith}
use lib.ListN.{get_or-replicate}
use Rattle.ranking.specs.Counts.{ways_from}
use Rattle.ranking.proofs.CountLaws.{ways_from-none, ways_from_less}
use Rattle.ranking.proofs.Size.{ways_from_small}
use Rattle.ranking.proofs.Tabled.{entries_set}
use borrow.Author.Rules.{rules}
use Rattle.ranking.proofs.ways_from.Goals.{After-ways-total}
use Rattle.ranking.proofs.ways_from.Goals as goal

pub returns-then-present-eq0 : goal.returns-then-present-eq0
returns-then-present-eq0 c = let a = c.args in
    λ m h. c.row_sums.ensures m h ∙ ap (ways_from a.rest m) (sym c.if-present-eq0.true)

pub loop-m-init : goal.loop-m-init
loop-m-init c = let a = c.args in
    let none : (i : ℕ) → a.rest < i → ways_from a.rest i a.present ≡ 0 = λ i l. ways_from-none a.rest i a.present l in (
      sym (none (a.rest + 1) (omega arith)),
      refl,
      λ i l h. get_or-replicate 17 i 0 0 h ∙ sym (none i (omega arith)),
    )

-- one term more
next : (c : After-ways-total) →
    let a = c.args in
    let l = c.loop-m in
    l.total + c.ways-total.result ≡ ways_from a.rest (l.m - 1) a.present
next c =
    let a = c.args in
    let l = c.loop-m in
    omega (arith, c.ways-total.ensures, l.invariant.0, ways_from_less a.rest l.m a.present (omega arith))

pub overflow_add-total : goal.overflow_add-total
overflow_add-total c = let s = c in
    let small = ways_from_small s.args.rest (c.loop-m.m - 1) s.args.present (omega (arith, s.requires)) in
    record { fits = omega (arith, next c, small) }

pub loop-m-preserved : goal.loop-m-preserved
loop-m-preserved c = let a = c.args in
    let l = c.loop-m in
    let f : ℕ → ℕ = λ i. ways_from a.rest i a.present in (
      next (goal.at.loop-m-preserved c).After-ways-total,
      search rules,
      λ i lo hi. entries_set l.totals f (l.m - 1) _ (omega arith) (next (goal.at.loop-m-preserved c).After-ways-total) i (λ ne. l.invariant.2 i (omega arith) hi),
    )

pub returns : goal.returns
returns c = λ i h. c.loop-m.invariant.2 i (omega arith) h
