-- The claims on the rules and on a step. Assumes nothing.
use mathlib.Core.List.{[], ◌∷◌, head-eq_of_cons-eq}
use mathlib.Core.Path.{refl}
use native.Mathlib.Omega.{arith}
use Rattle.successors.specs.Claims.{RulesUndo, StepKeeps, Predecessor, StepBackValues}
use Rattle.successors.specs.Rules.{rule2, rule3, rule_of, in_form, is_rule}
use Rattle.successors.specs.StepBack.{previous_of, predecessor, previous_symbol}
use Rattle.successors.proofs.FirstSymbol.{change}
use Rattle.successors.proofs.Rule1.{rule1_undoes_rule1}
use Rattle.successors.proofs.Rules23.{rule3_undoes_rule2, rule2_undoes_rule3}
use Rattle.successors.proofs.StepBack.{step_back}
use Rattle.successors.proofs.StepForm.{step-length, step_in_form}

pub rules_undo : RulesUndo
unfolding change
rules_undo = record {
  rule1-rule1 = λ x b t. head-eq_of_cons-eq (rule1_undoes_rule1 (x ∷ b) t);
  rule3-rule2 = λ x b. head-eq_of_cons-eq (rule3_undoes_rule2 (x ∷ b));
  rule2-rule3 = λ x b. head-eq_of_cons-eq (rule2_undoes_rule3 (x ∷ b));
}

pub step_keeps : StepKeeps
step_keeps = record {
  long = λ rule w pos. step-length (rule_of rule) w (omega arith);
  form = λ rule w pos. step_in_form rule w (omega arith);
}

pub step_back_values : StepBackValues
unfolding previous_of predecessor previous_symbol rule2 rule3
step_back_values = record {
  rule1_1 = refl;
  rule2_0 = refl;
  rule3_0 = refl;
  rule1_132 = refl;
  rule2_101 = refl;
  rule3_102 = refl;
  by_itself = (refl, refl);
  answer = refl;
  bad_length = refl;
  bad_rule = refl;
  bad_window = refl;
}

-- The step back there: its hypotheses are met.
pub step_back_of_101 : Predecessor 3 2 (1 ∷ 0 ∷ 1 ∷ [])
unfolding is_rule in_form
step_back_of_101 = step_back 2 refl 3 (omega arith) (1 ∷ 0 ∷ 1 ∷ []) (refl, refl)
