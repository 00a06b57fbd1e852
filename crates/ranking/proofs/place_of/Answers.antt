use mathlib.Core.Path.{◌≡◌, refl, sym, ap, ◌∙◌}
use Prim.Native.Nat.{◌+◌, ◌≤◌, ◌<◌}
use native.Mathlib.Omega.{arith}
use lib.ListN.{length, get_or, take}
use lib.Seq.{length-take-le}
use Rattle.std.specs.List.{sum as list_sum}
use Rattle.weak_orders.proofs.FormTests.{of_height_window}
use Rattle.ranking.specs.Counts.{sum}
use Rattle.ranking.proofs.Loops.{prefix_low, symbol_low, placed_at, placed_fits, placed-all}
use Rattle.ranking.proofs.Places.{place_at}
use Rattle.ranking.proofs.Size.{most}
use Rattle.ranking.proofs.Sums.{sum_front, sum_more}
use borrow.Author.Rules.{rules}
use Rattle.ranking.proofs.place_of.Goals.{After-from, Start}
use Rattle.ranking.proofs.place_of.Goals as goal

long : (s : Start) → length s.args.w ≡ 16
long s = search rules

-- the symbol at i, and what it adds
low : (c : After-from) → c.from.result < 16
low c = let a = c.args in
    omega (arith, c.from.ensures, c.loop-i.invariant.0, symbol_low a.w a.n (search rules) c.requires c.loop-i.i (search rules))

added : (c : After-from) → list_sum (take c.from.result c.continuations.new.counts) ≡ place_at (take c.args.n c.args.w) c.loop-i.i
added c =
    let a = c.args in
    let i = c.loop-i.i in
    let t = c.continuations.new.counts in
    let l : length t ≡ 16 = search rules in
    sum_front t c.from.result (omega (arith, low c))
    ∙ ap (sum (λ u. get_or t u 0)) c.from.ensures
    ∙ placed_at a.w a.n (search rules) c.requires i (search rules) t c.continuations.ensures

-- with it, the terms up to i
next : (c : After-from) →
    c.loop-i.before + list_sum (take c.from.result c.continuations.new.counts) ≡ sum (place_at (take c.args.n c.args.w)) (c.loop-i.i + 1)
next c = omega (arith, c.loop-i.invariant.1, added c, sum_more (place_at (take c.args.n c.args.w)) c.loop-i.i)

all_fit : (c : After-from) → sum (place_at (take c.args.n c.args.w)) (c.loop-i.i + 1) ≤ most
all_fit c = placed_fits c.args.w c.args.n (search rules) c.requires (c.loop-i.i + 1) (omega arith)

pub loop-i-init : goal.loop-i-init
unfolding sum
loop-i-init c = ((of_height_window c.args.w c.args.n c.requires).1, refl)

pub continuations-requires : goal.continuations-requires
continuations-requires c = let a = c.args in
    (search rules, search rules, prefix_low a.w a.n (search rules) c.requires c.loop-i.i (search rules))

pub slice_bounds-counts-end : goal.slice_bounds-counts-end
slice_bounds-counts-end c = let l : length c.continuations.new.counts ≡ 16 = search rules in omega (arith, low c)

pub slice_bounds-sum_of-end : goal.slice_bounds-sum_of-end
slice_bounds-sum_of-end c = let l : length c.continuations.new.counts ≡ 16 = search rules in
    sym (length-take-le c.from.result c.continuations.new.counts (omega (arith, low (goal.at.slice_bounds-sum_of-end c).After-from)))

pub sum_of-before-requires : goal.sum_of-before-requires
sum_of-before-requires c = let f = (goal.at.sum_of-before-requires c).After-from in omega (arith, next f, all_fit f)

pub overflow_add-before : goal.overflow_add-before
overflow_add-before c = let f = (goal.at.overflow_add-before c).After-from in
    record { fits = omega (arith, next f, all_fit f, c.sum_of-before.ensures) }

pub loop-i-preserved : goal.loop-i-preserved
loop-i-preserved c = let f = (goal.at.loop-i-preserved c).After-from in
    (search rules, omega (arith, next f, c.sum_of-before.ensures))

pub returns : goal.returns
returns c = let s = (goal.at.returns c).Start in
    let e : c.loop-i.i ≡ s.args.n = omega arith in
    c.loop-i.invariant.1 ∙ ap (sum (place_at (take s.args.n s.args.w))) e ∙ placed-all s.args.w s.args.n (long s) s.requires
