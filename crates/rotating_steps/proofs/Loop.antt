-- The loop of `count_other`: a tally along the steps of a rule, window by window. Assumes nothing.
use mathlib.Core.Bool.{not}
use mathlib.Core.List.{List, [], ◌∷◌}
use mathlib.Core.Path.{◌≡◌, refl, sym, ap, ◌∙◌}
use Prim.Native.Nat.{ℕ, ◌+◌, ◌-◌, ◌≤◌}
use native.Mathlib.Numerals.{add-one}
use native.Mathlib.Omega.{arith}
use lib.Dec.{eqb}
use lib.ListN.{length, take, get_or}
use lib.Seq.{length-take-le, get_or-take, get_or_at}
use mir.Val.{bool_byte}
use Rattle.weak_orders.specs.Window.{count, range, iter, shifted}
use Rattle.weak_orders.proofs.FormTests.{says_length}
use Rattle.weak_orders.proofs.Lists.{count_nil, count-range, count_le_length, length-range}
use Rattle.weak_orders.proofs.Tests.{bit, by_test}
use Rattle.successors.specs.NextSymbol.{step_or_stay}
use Rattle.successors.specs.Rules.{rule_of, step}
use Rattle.successors.proofs.Steppable.{Steppable, says_steppable, step_made}
use Rattle.successors.proofs.Stepped.{Stepped, stepped}
use Rattle.rotating_steps.specs.Kinds.{rotates}

-- Of the first i windows from u on, those that the step does not rotate.
abbrev pub others : ℕ → List ℕ → ℕ → ℕ
others r u i = count (λ k. not (rotates r (iter (step (rule_of r)) k u))) (range i)

pub others_le : (r : ℕ) (u : List ℕ) (i : ℕ) → others r u i ≤ i
others_le r u i = omega (arith, count_le_length (λ k. not (rotates r (iter (step (rule_of r)) k u))) (range i), length-range i)

-- v holds the window after i steps from w, and total the tally of those before.
pub record Walking (r n : ℕ) (w v : List ℕ) (total i : ℕ) : Type 0 where
  pub long : length v ≡ 16
  pub ready : Steppable r n v
  pub at : take n v ≡ iter (step (rule_of r)) i (take n w)
  pub tally : total ≡ others r (take n w) i

pub begun : (r n : ℕ) (w : List ℕ) → length w ≡ 16 → Steppable r n w → Walking r n w w 0 0
unfolding iter range
begun r n w e h = record { long = e; ready = h; at = refl; tally = sym (count_nil _) }

pub sized : {r n : ℕ} {w v : List ℕ} {total i : ℕ} → Walking r n w v total i → (1 ≤ n) × (n ≤ 16)
sized {n = n} W = (says_length n).to W.ready.1.0

-- The symbol that a step appends is the rule's.
appended : (rule : List ℕ → ℕ) (n : ℕ) (u : List ℕ) → length u ≡ n → 1 ≤ n → get_or (step rule u) (n - 1) 0 ≡ rule u
unfolding step shifted
appended rule n [] e pos = absurd (omega arith)
appended rule n (x ∷ b) e pos = get_or_at b (rule (x ∷ b)) [] 0 (n - 1) (omega arith)

module _ {r n : ℕ} {w v next : List ℕ} {total i d : ℕ} (W : Walking r n w v total i)
    (is : next ≡ step_or_stay r n v) (compared : d ≡ bool_byte (not (eqb (get_or next (n - 1) 0) (get_or v 0 0)))) where
  pos : 1 ≤ n
  pos = (sized W).0

  after : Stepped r n v next
  after = stepped W.long W.ready (is ∙ step_made r n v ((says_steppable r n v).of W.ready))

  one_more : d ≡ bit (not (rotates r (take n v)))
  unfolding rotates
  one_more =
      let u = take n v in
      let size : length u ≡ n = length-take-le n v (omega (arith, sized W, W.long)) in
      let last : get_or next (n - 1) 0 ≡ rule_of r u =
      sym (get_or-take n next (n - 1) 0 (omega (arith, pos))) ∙ ap (λ l. get_or l (n - 1) 0) after.window ∙ appended (rule_of r) n u size pos in
      let first : get_or v 0 0 ≡ get_or u 0 0 = sym (get_or-take n v 0 0 (omega (arith, pos))) in
      compared ∙ rw (last, first) (by_test (eqb (rule_of r u) (get_or u 0 0)) (λ t. rw t) (λ t. rw t))

  pub onward : Walking r n w next (total + d) (i + 1)
  unfolding iter
  onward = record {
    long = after.long;
    ready = after.ready;
    at = rw add-one (after.window ∙ ap (step (rule_of r)) W.at);
    tally = rw add-one (
        let at = ap (λ u. bit (not (rotates r u))) W.at in
        omega (arith, one_more, at, W.tally, count-range (λ k. not (rotates r (iter (step (rule_of r)) k (take n w)))) i));
  }
