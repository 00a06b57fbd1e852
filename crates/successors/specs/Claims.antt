-- What is proved of the rules and of a step, for windows of every length.
use Rattle.std.specs.Prelude.{true, List, [], ◌∷◌, ◌≡◌, ℕ, ◌≤◌, Ok, Err, length}
use Rattle.weak_orders.specs.Window.{is_rank}
use Rattle.refusals.specs.declared.Cause.TheVariants.{WindowLength, RuleNumber, NotWeakOrder}
use Rattle.successors.specs.Rules.{rule1, rule2, rule3, rule_of, in_form, WeakOrder, is_rule, step}
use Rattle.successors.specs.StepBack.{previous_of, predecessor, previous_symbol}

-- behind the same symbols b rule 1 undoes itself, and rules 2 and 3 undo each other
pub record RulesUndo : Type 0 where
  pub rule1-rule1 : (x : ℕ) (b : List ℕ) → is_rank (x ∷ b) ≡ true → rule1 (rule1 (x ∷ b) ∷ b) ≡ x
  pub rule3-rule2 : (x : ℕ) (b : List ℕ) → rule3 (rule2 (x ∷ b) ∷ b) ≡ x
  pub rule2-rule3 : (x : ℕ) (b : List ℕ) → rule2 (rule3 (x ∷ b) ∷ b) ≡ x

-- a step keeps the length of a window, and the rule's form
pub record StepKeeps : Type 0 where
  pub long : (rule : ℕ) (w : List ℕ) → 1 ≤ length w → length (step (rule_of rule) w) ≡ length w
  pub form : (rule : ℕ) (w : List ℕ) → 1 ≤ length w → in_form rule w ≡ true → in_form rule (step (rule_of rule) w) ≡ true

-- `predecessor` is a weak order of n that the rule sends to w, and the only one
pub record Predecessor (n r : ℕ) (w : List ℕ) : Type 0 where
  pub weak_order : WeakOrder n r (predecessor r w)
  pub sent : step (rule_of r) (predecessor r w) ≡ w
  pub only : (v : List ℕ) → WeakOrder n r v → step (rule_of r) v ≡ w → v ≡ predecessor r w

-- document 02's step back, for every weak order of n in the rule's form
abbrev pub StepBack : Type 0
StepBack = (r : ℕ) → is_rule r ≡ true → (n : ℕ) → 1 ≤ n → (w : List ℕ) → WeakOrder n r w → Predecessor n r w

-- values: windows of one symbol; a window of three for each rule, where neither 2 nor 3 undoes itself (`by_itself`); each refusal
pub record StepBackValues : Type 0 where
  pub rule1_1 : previous_of 1 (1 ∷ []) ≡ 1
  pub rule2_0 : previous_of 2 (0 ∷ []) ≡ 0
  pub rule3_0 : previous_of 3 (0 ∷ []) ≡ 0
  pub rule1_132 : predecessor 1 (1 ∷ 3 ∷ 2 ∷ []) ≡ 1 ∷ 1 ∷ 3 ∷ []
  pub rule2_101 : predecessor 2 (1 ∷ 0 ∷ 1 ∷ []) ≡ 0 ∷ 1 ∷ 0 ∷ []
  pub rule3_102 : predecessor 3 (1 ∷ 0 ∷ 2 ∷ []) ≡ 0 ∷ 1 ∷ 0 ∷ []
  pub by_itself : (rule2 (1 ∷ 1 ∷ 0 ∷ []) ≡ 2) × (rule3 (2 ∷ 1 ∷ 0 ∷ []) ≡ 1)
  pub answer : previous_symbol 2 3 (1 ∷ 0 ∷ 1 ∷ []) ≡ Ok 0
  pub bad_length : previous_symbol 4 17 [] ≡ Err WindowLength
  pub bad_rule : previous_symbol 4 3 [] ≡ Err RuleNumber
  pub bad_window : previous_symbol 2 3 (0 ∷ 2 ∷ 2 ∷ []) ≡ Err NotWeakOrder
