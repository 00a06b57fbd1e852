-- The claims of specs/Claims.antt. Assumes nothing.
use mathlib.Core.Bool.{true, false, not}
use mathlib.Core.List.{List, [], ◌∷◌, ◌++◌}
use mathlib.Core.Logic.{◌≢◌}
use mathlib.Core.Path.{◌≡◌, refl, ap, ◌∙◌}
use Prim.Native.Nat.{ℕ, zero, suc, ◌-◌, ◌*◌, ◌≤◌}
use native.Mathlib.Omega.{arith}
use lib.ListN.{length}
use borrow.Author.Tests.{not-true}
use Rattle.weak_orders.specs.Window.{shifted}
use Rattle.weak_orders.proofs.Iterates.{◌⨟◌}
use Rattle.weak_orders.proofs.Symbols.{num-same, num-other}
use Rattle.weak_orders.proofs.Tests.{◌∈◌, false→not_true}
use Rattle.rotations.specs.Rotation.{rotation, rotations}
use Rattle.rotations.proofs.Periods.{one_ring}
use Rattle.rotations.proofs.Rotations.{◌⟳◌, ⟳-sym, swing, length_rotated, num_rotated, mem_rotations}
use Rattle.ranking.specs.Numbering.{Exactly}
use Rattle.ranking.proofs.Numberings.{exactly_as}
use Rattle.successors.specs.Rules.{rule_of, in_form, WeakOrder, step}
use Rattle.rotating_steps.specs.Claims.{OneLeast, StepKinds, Examples}
use Rattle.rotating_steps.specs.Kinds.{weak_orders, rotates, same, other, necklace_of, is_necklace, necklaces}
use Rattle.rotating_steps.specs.Tallied.{tallied}
use Rattle.rotating_steps.proofs.Counting.{count-not}
use Rattle.rotating_steps.proofs.Exits.{twice_the_exits, exits_and_one}
use Rattle.rotating_steps.proofs.Necklaces.{one_necklace, necklace_rotated, necklace_is, necklace_rank}
use Rattle.rotating_steps.proofs.Selected.{says_rotates, selected, length-weak_orders}

by_one : (r : ℕ) (w : List ℕ) → 1 ≤ length w → rotates r w ≡ true → step (rule_of r) w ≡ rotation w 1
unfolding step shifted rotation
by_one r [] pos t = absurd (omega arith)
by_one r (x ∷ b) pos t = ap (λ y. b ++ (y ∷ [])) ((says_rotates r x b).to t)

-- Otherwise the window has one more of the symbol that comes than it had.
to_another : (r : ℕ) (w : List ℕ) → 1 ≤ length w → rotates r w ≡ false → ¬ (step (rule_of r) w ∈ rotations w)
unfolding step shifted
to_another r [] pos t i = absurd (omega arith)
to_another r (x ∷ b) pos t i =
    let s = rule_of r (x ∷ b) in
    let other : s ≢ x = λ e. false→not_true (rotates r (x ∷ b)) t ((says_rotates r x b).of e) in
    let c : x ∷ b ⟳ s ∷ b = (mem_rotations x b (b ++ (s ∷ []))).0 i ⨟ swing b (s ∷ []) in
    omega (arith, num_rotated c s, num-same s b, num-other x b s other)

counted-other : (r n : ℕ) → Exactly (other r n) (λ w. WeakOrder n r w × (rotates r w ≡ false))
unfolding other
counted-other r n = exactly_as (selected r n (λ w. not (rotates r w))) (λ w. (λ (p, e). (p, not-true (rotates r w) e), λ (p, e). (p, ap not e)))

one_least : (n : ℕ) → 1 ≤ n → (w : List ℕ) → WeakOrder n 1 w → OneLeast n w
unfolding in_form
one_least n pos [] p = absurd (omega (arith, p.0))
one_least n pos (x ∷ b) p =
    let w = x ∷ b in
    let c = necklace_rotated w in
    let t = necklace_is w (omega arith) in
    record {
      on_ring = (mem_rotations x b (necklace_of w)).1 c;
      weak_order = necklace_rank n w p;
      necklace = t;
      only = λ v i t'.
          let d = (mem_rotations x b v).0 i in
          one_necklace v (necklace_of w) (omega (arith, length_rotated d)) (⟳-sym d ⨟ c) t' t;
    }

rule_1 : (n : ℕ) → 1 ≤ n → other 1 n ≡ 2 * (necklaces n - 1)
rule_1 zero pos = absurd (omega arith)
rule_1 (suc m) pos = omega (arith, twice_the_exits m, exits_and_one m)

pub step_kinds : StepKinds
unfolding same other necklaces necklace_of
step_kinds = record {
  by_one = by_one;
  to_another = to_another;
  counted_same = λ r n. selected r n (rotates r);
  counted-other = counted-other;
  sums = λ r n. count-not (rotates r) (weak_orders r n) ∙ length-weak_orders r n;
  counted-necklaces = λ n. selected 1 n is_necklace;
  one_least = one_least;
  same_least = λ n pos u v p q. (one_ring u v (omega (arith, p.0))).by_least;
  rule_1 = rule_1;
  same_of_3 = refl;
  other_of_3 = refl;
  necklaces_of_3 = refl;
}

pub examples : Examples
unfolding rotates in_form necklace_of other necklaces tallied
examples = record {
  one_alone = refl;
  all_ones = refl;
  of_312 = refl;
  of_321 = refl;
  one_of_312 = one_least 3 (omega arith) (3 ∷ 1 ∷ 2 ∷ []) (refl, refl);
  tally_of_3 = refl;
  no_n = refl;
  no_rule = refl;
  other_1 = refl;
  other_2 = refl;
  other_3 = refl;
  necklaces_first = refl;
}
