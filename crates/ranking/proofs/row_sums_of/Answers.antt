use mathlib.Core.Path.{◌≡◌, refl, sym}
use Prim.Native.Nat.{◌+◌, ◌-◌, ◌*◌}
use native.Mathlib.Omega.{arith}
use lib.ListN.{get_or}
use Rattle.ranking.specs.Counts.{ways_from}
use Rattle.ranking.proofs.CountLaws.{L-ways, ways_from-none, ways_from_less}
use Rattle.ranking.proofs.Size.{ways_from_small}
use Rattle.ranking.proofs.Tabled.{entries_set, entry-L}
use borrow.Author.Rules.{rules}
use Rattle.ranking.proofs.row_sums_of.Goals.{In-loop-m}
use Rattle.ranking.proofs.row_sums_of.Goals as goal

pub loop-m-init : goal.loop-m-init
loop-m-init c = (sym (ways_from-none c.args.n 17 0 (omega (arith, c.requires))), refl, λ i l h. absurd (omega arith))

-- one entry more
next : (c : In-loop-m) →
    let a = c.args in
    let l = c.loop-m in
    l.total + get_or a.counts (a.n * 17 + (l.m - 1)) 0 ≡ ways_from a.n (l.m - 1) 0
next c =
    let s = c in
    let l = c.loop-m in
    omega (
      arith,
      l.invariant.0,
      entry-L s.args.counts s.requires.1 s.args.n (l.m - 1) (search rules) (omega arith),
      L-ways s.args.n (l.m - 1),
      ways_from_less s.args.n l.m 0 (omega arith),
    )

pub overflow_add-total-in-loop-m : goal.overflow_add-total-in-loop-m
overflow_add-total-in-loop-m c = let s = c in
    record { fits = omega (arith, next c, ways_from_small s.args.n (c.loop-m.m - 1) 0 (omega (arith, s.requires))) }

pub loop-m-preserved : goal.loop-m-preserved
loop-m-preserved c = let n = c.args.n in
    let l = c.loop-m in (
      next c,
      search rules,
      λ i lo hi. entries_set l.sums (λ i. ways_from n i 0) (l.m - 1) _ (omega arith) (next c) i (λ ne. l.invariant.2 i (omega arith) hi),
    )

pub returns : goal.returns
returns c = λ i h. c.loop-m.invariant.2 i (omega arith) h
