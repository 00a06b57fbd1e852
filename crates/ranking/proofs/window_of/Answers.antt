use native.Mathlib.Omega.{arith}
use Rattle.weak_orders.proofs.Padded.{padded_nil, padded-all}
use Rattle.ranking.specs.Dictionary.{window_at}
use Rattle.ranking.proofs.Loops.{found_low, found_within, found_next}
use Rattle.ranking.proofs.Places.{heights-numbered}
use Rattle.ranking.proofs.WindowAt.{reached_start}
use borrow.Author.Rules.{rules}
use Rattle.ranking.proofs.window_of.Goals as goal

pub loop-i-init : goal.loop-i-init
loop-i-init c = (padded_nil, reached_start c.args.n c.args.place c.requires.1)

pub continuations-requires : goal.continuations-requires
continuations-requires c = let a = c.args in
    let p = c.requires in
    (search rules, search rules, found_low a.n a.place p.0 p.1 _ c.loop-i.i (search rules) c.loop-i.invariant.0)

pub symbol_at-next-requires : goal.symbol_at-next-requires
symbol_at-next-requires c = let a = c.args in
    let p = c.requires in
    let l = c.loop-i in (
      search rules,
      found_within a.n a.place p.0 p.1 _ l.i (search rules) l.invariant.0 l.left (search rules) l.invariant.1
          c.continuations.new.counts c.continuations.ensures,
    )

pub loop-i-preserved : goal.loop-i-preserved
loop-i-preserved c = let a = c.args in
    let p = c.requires in
    let l = c.loop-i in
    let (x, m) = c.symbol_at-next.ensures in
    let (e, R) = found_next a.n a.place p.0 p.1 _ l.i (search rules) l.invariant.0 l.left (search rules) l.invariant.1
    c.continuations.new.counts c.continuations.ensures _ _ x m in
    (e, R)

pub returns : goal.returns
returns c = let a = c.args in
    let len = ((heights-numbered a.n).item_in a.place c.requires.1).0 in
    padded-all (window_at a.n a.place) c.loop-i.window c.loop-i.i (omega (arith, len)) c.loop-i.invariant.0
