use borrow.Author.Rules.{rules}
use mathlib.Core.List.{List, [], ◌∷◌, ◌++◌}
use Prim.Native.Nat.{ℕ, ◌+◌}
use mathlib.Core.Path.{◌≡◌, refl, sym, ap, ap₂, ◌∙◌}
use native.Mathlib.Omega.{arith}
use native.Mathlib.Numerals.{add-one}
use lib.ListN.{length, take, get_or, set}
use lib.Seq.{length-take-le, take-suc, take_all}
use Rattle.weak_orders.specs.Tables.{tally}
use Rattle.weak_orders.proofs.Parts.{capped_window}
use Rattle.weak_orders.proofs.Tallies.{tally-num, tally_le, tally_more}
use Rattle.weak_orders.proofs.counts.Goals.{After-capped, After-loop-v}
use Rattle.weak_orders.proofs.counts.Goals as goal

-- what is looked at is all that n asks for
whole : (c : After-capped) → let u = take c.capped.result c.args.w in (length u ≡ c.capped.result) × (u ≡ take c.args.n c.args.w)
whole c = capped_window c.args.w c.args.n 16 _ (search rules) c.capped.ensures

pub loop-v-init : goal.loop-v-init
unfolding tally
loop-v-init c = refl

pub overflow_add-t : goal.overflow_add-t
overflow_add-t c =
    let p = c.loop-v in
    let part = take p.v-index (take c.capped.result c.args.w) in
    let v = c.slot.result in
    let e : get_or p.t v 0 ≡ get_or (tally part) v 0 = ap (λ t. get_or t v 0) p.invariant in
    record { fits = omega (arith, tally_le part v (omega (arith, c.slot.ensures)), length-take-le p.v-index (take c.capped.result c.args.w) (omega arith), (whole (goal.at.overflow_add-t c).After-capped).0) }

pub loop-v-preserved : goal.loop-v-preserved
loop-v-preserved c =
    let p = c.loop-v in
    let u = take c.capped.result c.args.w in
    let e : take (p.v-index + 1) u ≡ take p.v-index u ++ (get_or u p.v-index 0 ∷ []) = rw (add-one, take-suc u p.v-index 0 c.loop-v-test.true) in
    let f : List ℕ → ℕ → List ℕ = λ t v. set t v (get_or t v 0 + 1) in
    ap₂ f p.invariant c.slot.ensures ∙ tally_more (take p.v-index u) (get_or u p.v-index 0) ∙ ap tally (sym e)

-- at the end of the loop all the first n are passed
all_passed : (c : After-loop-v) → c.loop-v.t ≡ tally (take c.args.n c.args.w)
all_passed c =
    let u = take c.capped.result c.args.w in
    c.loop-v.invariant ∙ ap tally (take_all c.loop-v.v-index u (omega arith) ∙ (whole (goal.at.returns c).After-capped).1)

pub returns : goal.returns
returns c = record { value = all_passed c; num = λ v le. rw (all_passed c) (tally-num _ v le) }
