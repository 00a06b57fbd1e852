-- A step keeps the length of a window and the rule's form, whichever the rule. Assumes nothing.
use mathlib.Core.Bool.{true}
use mathlib.Core.List.{List, [], ◌∷◌}
use mathlib.Core.Path.{◌≡◌, ◌∙◌}
use Prim.Native.Nat.{ℕ, ◌<◌}
use native.Mathlib.Decide.{ℕ_discrete}
use lib.Dec.{eqb}
use lib.ListN.{length}
use Rattle.weak_orders.specs.Window.{is_height}
use Rattle.weak_orders.proofs.RankForm.{says_rank}
use Rattle.weak_orders.proofs.Tests.{by_test}
use Rattle.rotations.proofs.Forms.{rank_rotated, height_rotated}
use Rattle.rotations.proofs.Rotations.{◌⟳◌, turned, length_rotated}
use Rattle.successors.specs.Rules.{rule_of, in_form, step}
use Rattle.successors.proofs.FirstSymbol.{change, turn_change, length_change}
use Rattle.successors.proofs.Rule1.{rank_change}
use Rattle.successors.proofs.RuleNumbers.{form_rank, form_height, is_rule1, is_rule2, is_rule3}
use Rattle.successors.proofs.Rules23.{moves2, moves3, height_change}

pub step-length : (rule : List ℕ → ℕ) (w : List ℕ) → 0 < length w → length (step rule w) ≡ length w
step-length rule w lt = rw (← turn_change rule w lt) (length_rotated turned ∙ length_change rule w)

-- rotation keeps the form, and so does a rule's change of the first symbol
pub form_rotated : (rule : ℕ) {w v : List ℕ} → w ⟳ v → in_form rule w ≡ true → in_form rule v ≡ true
unfolding in_form
form_rotated rule {w} {v} c h = by_test (eqb rule 1)
    (λ e. rw e ((says_rank v).of (rank_rotated c ((says_rank w).to (rw e at h)))))
    (λ e. rw e (height_rotated c (rw e at h)))

pub change_in_form : (rule : ℕ) (w : List ℕ) → in_form rule w ≡ true → in_form rule (change (rule_of rule) w) ≡ true
unfolding change
change_in_form rule [] h = h
change_in_form rule (x ∷ b) h = elim (ℕ_discrete rule 1) [
  | yes e ↦ rw (form_rank rule _ e, is_rule1 rule (x ∷ b) e) ((says_rank _).of (rank_change x b ((says_rank (x ∷ b)).to (rw (form_rank rule _ e) at h))))
  | no ne ↦
      let height : is_height (x ∷ b) ≡ true = rw (form_height rule _ ne) at h in
      elim (ℕ_discrete rule 2) [
        | yes e ↦ rw (form_height rule _ ne, is_rule2 rule (x ∷ b) ne e) (height_change moves2 x b height)
        | no ne₂ ↦ rw (form_height rule _ ne, is_rule3 rule (x ∷ b) ne ne₂) (height_change moves3 x b height)
      ]
]

pub step_in_form : (rule : ℕ) (w : List ℕ) → 0 < length w → in_form rule w ≡ true → in_form rule (step (rule_of rule) w) ≡ true
step_in_form rule w lt h = rw (← turn_change (rule_of rule) w lt) (form_rotated rule turned (change_in_form rule w h))
