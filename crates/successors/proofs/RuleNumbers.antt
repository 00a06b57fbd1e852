-- The rule with a number, and the form of its windows. Assumes nothing.
use mathlib.Core.Bool.{true}
use mathlib.Core.List.{List}
use mathlib.Core.Logic.{◌≢◌}
use mathlib.Core.Path.{◌≡◌}
use Prim.Native.Nat.{ℕ, ◌≤◌}
use native.Mathlib.Omega.{arith}
use native.Mathlib.Decide.{ℕ_discrete}
use lib.Dec.{eqb}
use lib.ListN.{length}
use borrow.Author.Tests.{eq-eqb, ne_eqb}
use Rattle.weak_orders.specs.Says.{Says}
use Rattle.weak_orders.specs.Window.{is_rank, is_height}
use Rattle.weak_orders.proofs.HeightForm.{height-below}
use Rattle.weak_orders.proofs.RankForm.{says_rank, rank_le_length}
use Rattle.weak_orders.proofs.Tests.{◌∈◌, by_test, says_le, says_and}
use Rattle.successors.specs.Rules.{rule1, rule2, rule3, rule_of, in_form, is_rule}

module _ (rule : ℕ) (w : List ℕ) where
  pub form_rank : rule ≡ 1 → in_form rule w ≡ is_rank w
  unfolding in_form
  form_rank e = rw (eq-eqb rule 1 e)

  pub form_height : rule ≢ 1 → in_form rule w ≡ is_height w
  unfolding in_form
  form_height ne = rw (ne_eqb rule 1 ne)

  pub is_rule1 : rule ≡ 1 → rule_of rule w ≡ rule1 w
  unfolding rule_of
  is_rule1 e = rw (eq-eqb rule 1 e)

  pub is_rule2 : rule ≢ 1 → rule ≡ 2 → rule_of rule w ≡ rule2 w
  unfolding rule_of
  is_rule2 ne e = rw (ne_eqb rule 1 ne, eq-eqb rule 2 e)

  pub is_rule3 : rule ≢ 1 → rule ≢ 2 → rule_of rule w ≡ rule3 w
  unfolding rule_of
  is_rule3 ne ne₂ = rw (ne_eqb rule 1 ne, ne_eqb rule 2 ne₂)

-- a symbol of a window in a form is at most its length
pub form_bound : (rule : ℕ) (w : List ℕ) → in_form rule w ≡ true → (v : ℕ) → v ∈ w → v ≤ length w
unfolding in_form
form_bound rule w e v m = by_test (eqb rule 1)
    (λ t. rank_le_length w ((says_rank w).to (rw t at e)) v m)
    (λ t. omega (arith, height-below w (rw t at e) v m))

-- The rules are numbered 1 to 3.
pub says_rule : (rule : ℕ) → Says (is_rule rule) ((1 ≤ rule) × (rule ≤ 3))
unfolding is_rule
says_rule rule = says_and (says_le 1 rule) (says_le rule 3)

-- What holds of each of the three holds of every rule.
pub by_rule : (P : ℕ → Type 0) → P 1 → P 2 → P 3 → (r : ℕ) → is_rule r ≡ true → P r
by_rule P p q s r t = elim (ℕ_discrete r 1) [
  | yes e ↦ rw e p
  | no x ↦ elim (ℕ_discrete r 2) [
    | yes e ↦ rw e q
    | no y ↦ let e : r ≡ 3 = omega (arith, (says_rule r).to t) in rw e s
  ]
]
