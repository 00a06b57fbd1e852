-- The step back: a step is a change of the first symbol and a turn, so a turn back and the undoing rule's change undo it. Assumes nothing.
use mathlib.Core.Bool.{true}
use mathlib.Core.List.{List}
use mathlib.Core.Path.{◌≡◌, sym, ap, ◌∙◌}
use Prim.Native.Nat.{ℕ, min, ◌<◌}
use native.Mathlib.Omega.{arith}
use lib.ListN.{length, take, length-take}
use Rattle.weak_orders.specs.Window.{padded}
use Rattle.weak_orders.proofs.Padded.{length-padded, take-padded}
use Rattle.weak_orders.proofs.Parts.{take_capped}
use Rattle.weak_orders.proofs.Tests.{same_test, says_itself}
use Rattle.rotations.specs.Rotation.{turned_back}
use Rattle.rotations.proofs.Rotations.{turn, ⟳-sym, length_rotated, turn_back, back_turn, turned_back_lem, newest_front}
use Rattle.successors.specs.Claims.{StepBack}
use Rattle.successors.specs.NextSymbol.{judged, next_symbol}
use Rattle.successors.specs.Rules.{rule_of, in_form, is_rule}
use Rattle.successors.specs.StepBack.{undoing, previous_of, predecessor, previous_symbol}
use Rattle.successors.proofs.FirstSymbol.{change, turn_change, length_change}
use Rattle.successors.proofs.Rule1.{rule1_undoes_rule1}
use Rattle.successors.proofs.RuleNumbers.{by_rule}
use Rattle.successors.proofs.Rules23.{rule3_undoes_rule2, rule2_undoes_rule3}
use Rattle.successors.proofs.StepForm.{form_rotated, change_in_form}
use Rattle.successors.proofs.Undoing.{undoing_known, undoing_form}

-- ---- the undoing rule's change

record Undone (r : ℕ) (w : List ℕ) : Type 0 where
  forth : change (rule_of r) (change (rule_of (undoing r)) w) ≡ w
  back : change (rule_of (undoing r)) (change (rule_of r) w) ≡ w

undone : (r : ℕ) → is_rule r ≡ true → (w : List ℕ) → in_form r w ≡ true → Undone r w
unfolding rule_of undoing in_form
undone = by_rule (λ r. (w : List ℕ) → in_form r w ≡ true → Undone r w)
    (λ w h. record { forth = rule1_undoes_rule1 w h; back = rule1_undoes_rule1 w h })
    (λ w h. record { forth = rule2_undoes_rule3 w; back = rule3_undoes_rule2 w })
    (λ w h. record { forth = rule3_undoes_rule2 w; back = rule2_undoes_rule3 w })

-- ---- the window before

predecessor_is : (r : ℕ) (w : List ℕ) → 0 < length w → predecessor r w ≡ change (rule_of (undoing r)) (turned_back w)
unfolding predecessor previous_of change
predecessor_is r w lt = rw (newest_front w lt)

pub step_back : StepBack
step_back r t n pos w (long, form) =
    let v = turned_back w in
    let u = change (rule_of (undoing r)) v in
    let size : length u ≡ n = length_change (rule_of (undoing r)) v ∙ length_rotated (turned_back_lem w) ∙ long in
    let turned : in_form r v ≡ true = form_rotated r (turned_back_lem w) form in
    let is = predecessor_is r w (omega arith) in
    record {
      weak_order = rw is (size, sym (undoing_form r u) ∙ change_in_form (undoing r) v (undoing_form r v ∙ turned));
      sent = rw is (sym (turn_change (rule_of r) u (omega arith)) ∙ ap turn (undone r t v turned).forth ∙ turn_back w);
      only = λ x (l, h) s.
          let e : change (rule_of r) x ≡ v =
          sym (back_turn (change (rule_of r) x)) ∙ ap turned_back (turn_change (rule_of r) x (omega arith) ∙ s) in
          sym (undone r t x h).back ∙ ap (change (rule_of (undoing r))) e ∙ sym is;
    }

-- ---- the answer

-- the window turned back is judged as the window is
judged_back : (rule n : ℕ) (w : List ℕ) → judged (undoing rule) n (turned_back w) ≡ judged rule n w
unfolding judged
judged_back rule n w =
    let c = turned_back_lem w in
    let form : in_form rule (turned_back w) ≡ in_form rule w =
    same_test (record { to = form_rotated rule (⟳-sym c); of = form_rotated rule c }) (says_itself (in_form rule w)) in
    rw (undoing_known rule, length_rotated c, undoing_form rule (turned_back w), form)

-- and found again in its array, where no more than 16 symbols are looked at
taken_back : (w : List ℕ) (n : ℕ) → length w ≡ 16 → take n (padded (turned_back (take n w))) ≡ turned_back (take n w)
taken_back w n l =
    let v = turned_back (take n w) in
    let size : length v ≡ min n 16 = length_rotated (turned_back_lem (take n w)) ∙ length-take n w ∙ ap (min n) l in
    sym (take_capped (padded v) n 16 (length-padded v (omega arith))) ∙ take-padded v (min n 16) size

pub previous_found : (rule n : ℕ) (w v : List ℕ) → length w ≡ 16 → v ≡ padded (turned_back (take n w)) →
    next_symbol (undoing rule) n (take n v) ≡ previous_symbol rule n (take n w)
unfolding next_symbol previous_symbol previous_of
previous_found rule n w v l e = rw (e, taken_back w n l, judged_back rule n (take n w))
