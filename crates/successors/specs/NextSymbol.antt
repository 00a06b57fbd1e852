-- What `can_step`, `judge`, `next_symbol` and `step` answer for every rule, window and n (document 01, "Turned down": direct calls).
use Rattle.std.specs.Prelude.{Bool, cond, not, ◌&&◌, List, ℕ, Result, Ok, Err, eqb, length, take}
use Rattle.refusals.specs.Numbers.{refusal}
use Rattle.refusals.specs.declared.Cause.{Cause}
use Rattle.refusals.specs.declared.Cause.TheVariants.{WindowLength, RuleNumber, NotWeakOrder}
use Rattle.weak_orders.specs.Window.{is_length, padded}
use Rattle.successors.specs.Rules.{rule_of, in_form, is_rule, step}

-- there is such a rule, and the first n symbols of the array are a weak order of n in its form
unfoldable pub steppable : ℕ → ℕ → List ℕ → Bool
unfolding is_rule is_length in_form
steppable rule n w = is_rule rule && (is_length n && in_form rule (take n w))

-- one step of such an array; any other stays as it is
unfoldable pub step_or_stay : ℕ → ℕ → List ℕ → List ℕ
unfolding steppable padded step rule_of
step_or_stay rule n w = cond (steppable rule n w) (padded (step (rule_of rule) (take n w))) w

-- a window of n under a rule: tests 6, 7 and 8, and 8 covers one that is not n long
unfoldable pub judged : ℕ → ℕ → List ℕ → Result (Unit {0}) Cause
unfolding is_length is_rule in_form
judged rule n w =
    cond (not (is_length n)) (Err WindowLength) (
    cond (not (is_rule rule)) (Err RuleNumber) (
    cond (not (eqb (length w) n && in_form rule w)) (Err NotWeakOrder)
    (Ok tt)))

-- what is answered for an accepted window, or why nothing is
unfoldable pub answer_by : {A : Type 0} → Result (Unit {0}) Cause → A → Result A Cause
answer_by (Ok _) x = Ok x
answer_by (Err cause) x = Err cause

-- what a direct call returns for a symbol
abbrev pub next_number : Result ℕ Cause → ℕ
next_number (Ok s) = s
next_number (Err cause) = refusal cause

-- the symbol that follows a window
unfoldable pub next_symbol : ℕ → ℕ → List ℕ → Result ℕ Cause
unfolding answer_by judged rule_of
next_symbol rule n w = answer_by (judged rule n w) (rule_of rule w)
