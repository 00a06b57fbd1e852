use borrow.Author.Rules.{rules}
use mathlib.Core.Path.{◌≡◌, refl, sym, ◌∙◌}
use Prim.Native.Nat.{ℕ, suc, ◌+◌, ◌<◌, ◌≤◌}
use native.Mathlib.Omega.{arith}
use mathlib.Core.List.{List}
use lib.Seq.{length-take-le, get_or-take}
use lib.ListN.{length, take, get_or}
use mir.Syntax.{w8}
use mir.Val.{Fits}
use Rattle.weak_orders.specs.Tables.{upto}
use Rattle.weak_orders.proofs.FormTests.{Ranked, sized, says_length, says_rank_table, ranked_fails, ranked_more, upto_more}
use Rattle.weak_orders.proofs.Tests.{says_as, says_no, says_eq, same_test, false→not_true}
use Rattle.weak_orders.proofs.is_rank_table.Goals.{Else-not-is_length}
use Rattle.weak_orders.proofs.is_rank_table.Goals as goal

pub returns-then-not-is_length : goal.returns-then-not-is_length
returns-then-not-is_length c = let a = c.args in
    let no = sym c.is_length.ensures ∙ c.if-not-is_length.true in
    sym (says_no (says_rank_table a.n a.t) (λ h. false→not_true _ no ((says_length a.n).of h.0)))

-- what is gone through is the table up to n
module _ (t : List ℕ) (n : ℕ) (l : length t ≡ 18) (le : n ≤ 16) where
  long : length (take (n + 1) t) ≡ suc n
  long = omega (arith, length-take-le (n + 1) t (omega arith))

  entry : (v : ℕ) → v < suc n → get_or (take (n + 1) t) v 0 ≡ get_or t v 0
  entry v lt = get_or-take (n + 1) t v 0 (omega arith)

pub slice_bounds-places-items-end : goal.slice_bounds-places-items-end
slice_bounds-places-items-end c =
    let l : length c.args.t ≡ 18 = search rules in
    let (pos, le) = sized c.args.n c.if-not-is_length.ensures in
    sym (length-take-le (c.args.n + 1) c.args.t (omega arith))

pub loop-v-init : goal.loop-v-init
unfolding upto
loop-v-init c = (refl, λ k p q. absurd (omega arith), search rules)

-- one turn: the index is one of the table up to n, and the entry is the table's own
inside : (c : Else-not-is_length) (v : ℕ) → let t = c.args.t in let n = c.args.n in
    v < length (take (n + 1) t) → (v < suc n) × (n ≤ 16) × (get_or (take (n + 1) t) v 0 ≡ get_or t v 0)
inside c v lt =
    let l : length c.args.t ≡ 18 = search rules in
    let (pos, le) = sized c.args.n c.if-not-is_length.ensures in
    let h : v < suc c.args.n = omega (arith, long c.args.t c.args.n l le) in
    (h, le, entry c.args.t c.args.n l le v h)

pub returns-then-places-v : goal.returns-then-places-v
returns-then-places-v c =
    let (lt, le, own) = inside (goal.at.returns-then-places-v c).Else-not-is_length c.loop-v.v c.loop-v-test.true in
    let p = c.loop-v in
    let t = c.args.t in
    let n = c.args.n in
    let fails = ranked_fails t p.seen p.v p.invariant.0 (suc n) lt (rw own at c.if-places-v.true) in
    sym (says_no (says_rank_table n t) (λ h. fails h.1.1))

pub loop-v-preserved : goal.loop-v-preserved
loop-v-preserved c =
    let (lt, le, own) = inside (goal.at.loop-v-preserved c).Else-not-is_length c.loop-v.v c.loop-v-test.true in
    let p = c.loop-v in
    let t = c.args.t in
    let h : Fits w8 (get_or t p.v 0) = search rules in
    let more : c.from-seen.result ≡ get_or t p.v 0 = c.from-seen.ensures ∙ own in (
      rw more (upto_more t p.seen p.v p.invariant.0),
      ranked_more t p.seen p.v p.invariant.0 (rw own at c.if-places-v.false) p.invariant.1,
      omega (arith, more, h.fits),
    )

pub returns : goal.returns
returns c =
    let p = c.loop-v in
    let n = c.args.n in
    let t = c.args.t in
    let size = sized c.args.n c.if-not-is_length.ensures in
    let e : p.v ≡ suc n = omega (arith, long t n (search rules) size.1) in
    let h : Ranked t (suc n) = rw e at p.invariant.1 in
    let s : p.seen ≡ upto t (suc n) = rw e at p.invariant.0 in
    same_test (says_as (says_eq p.seen n) (λ q. (size, (sym s ∙ q, h))) (λ q. s ∙ q.1.0)) (says_rank_table n t)
