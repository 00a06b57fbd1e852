use mathlib.Core.Path.{◌≡◌, refl, ap, ◌∙◌}
use Prim.Native.Nat.{max, ◌+◌, ◌-◌, ◌<◌}
use native.Mathlib.Omega.{arith}
use lib.Dec.{ltb}
use lib.ListN.{length, take, length-take}
use Rattle.weak_orders.specs.Window.{different}
use Rattle.weak_orders.proofs.Symbols.{different-below, different≤length}
use Rattle.ranking.specs.Counts.{ways_from}
use Rattle.ranking.proofs.Following.{Known, symbols≤top, ways_fit, missing<17, missing_itself, counted-completions}
use borrow.Author.Rules.{rules}
use Rattle.ranking.proofs.continuations.Goals.{After-ways_from, After-different-present, After-max, Joined-seen-v-eq0, Start, then-seen-v-eq0, else-seen-v-eq0}
use Rattle.ranking.proofs.continuations.Goals as goal

-- what was found out about the prefix
symbols : (s : After-different-present) → s.different-present.result ≡ different (take s.args.i s.args.w)
symbols s =
    let p = take s.args.i s.args.w in
    s.different-present.ensures ∙ different-below p 31 (omega (arith, s.requires.1, s.requires.2))

long : (s : Start) → length (take s.args.i s.args.w) ≡ s.args.i
long s = let l : length s.args.w ≡ 16 = search rules in omega (arith, length-take s.args.i s.args.w)

known : (s : After-ways_from) →
    let a = s.args in
    Known a.n (take a.i a.w) s.counts-seen.result s.bound-top.result s.different-present.result s.ways_from.new.totals
known s =
    let a = s.args in
    let p = take a.i a.w in
    let w : length a.w ≡ 16 = search rules in
    let l : length p ≡ a.i = omega (arith, length-take a.i a.w) in
    record {
      short = omega arith;
      few = s.requires.1;
      low = s.requires.2;
      occurring = s.counts-seen.ensures.value;
      largest = s.bound-top.ensures;
      symbols = s.different-present.ensures ∙ different-below p 31 (omega (arith, s.requires.1, s.requires.2));
      ways = λ m h. s.ways_from.ensures m h ∙ ap (λ r. ways_from r m s.different-present.result) (omega arith);
    }

larger : (c : After-max) → c.max.result ≡ max c.bound-top.result (c.loop-v.v + 1)
larger c = search rules

pub ways_from-requires : goal.ways_from-requires
ways_from-requires c = let t = (goal.at.ways_from-requires c).Start in
    omega (arith, symbols (goal.at.ways_from-requires c).After-different-present, long t, different≤length (take t.args.i t.args.w))

pub loop-v-init : goal.loop-v-init
loop-v-init c = (refl, λ i h. absurd (omega arith))

pub overflow_sub-missing : goal.overflow_sub-missing
overflow_sub-missing c = let g = goal.at.overflow_sub-missing c in
    omega (arith, symbols≤top (known g.After-ways_from), larger g.After-max)

pub overflow_sub-counts : goal.overflow_sub-counts
overflow_sub-counts c = let g = goal.at.overflow_sub-counts c in
    rw (larger g.After-max) (missing_itself (known g.After-ways_from) c.loop-v.v (search rules) (ap (ltb 0) c.if-seen-v-eq0.true))

pub overflow_add-counts : goal.overflow_add-counts
overflow_add-counts c =
    let g = goal.at.overflow_add-counts c in
    let K = known g.After-ways_from in
    let m = c.max.result - c.different-present.result in
    let h : m < 17 = rw (larger g.After-max) (missing<17 K c.loop-v.v (search rules)) in
    record { fits = omega (arith, ways_fit K m h, ways_fit K (m - 1) (omega (arith, h))) }

pub returns : goal.returns
returns c = λ v h. c.loop-v.invariant.1 v (omega arith) ∙ counted-completions (known (goal.at.returns c).After-ways_from) v h
