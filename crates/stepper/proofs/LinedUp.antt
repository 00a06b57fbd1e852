-- Two benches under one rule, by the tour of the first. Assumes nothing.
use mathlib.Core.List.{List, ◌∷◌, map}
use mathlib.Core.Path.{◌≡◌, refl, sym, ap, ap₂, ◌∙◌}
use Prim.Native.Nat.{ℕ, zero, suc, ◌+◌}
use native.Mathlib.Omega.{arith}
use Rattle.weak_orders.specs.Window.{range}
use Rattle.weak_orders.proofs.Lists.{map_cong, map_range}
use Rattle.ranking.specs.Counts.{a}
use Rattle.successors.specs.Rules.{rule_of, WeakOrder, step}
use Rattle.universal_cycle.specs.TwoStarts.{listed, moved}
use Rattle.universal_cycle.proofs.TwoStarts.{between}
use Rattle.frames.specs.Question.{length_in, rule_in}
use Rattle.stepper.specs.Exchange.{fresh, exchange}
use Rattle.stepper.specs.ExactlyOnce.{round_of, start_of, window_after, numbers_after, copy_after}
use Rattle.stepper.specs.Example.{beginning, odd, lent}
use Rattle.stepper.specs.LinedUp.{windows_of, RoundsLineUp, beginning_at21, LinedUpInstance}
use Rattle.stepper.proofs.ExactlyOnce.{left}
use Rattle.stepper.proofs.Standing.{start_order, listing}

-- the numbers c + 1, …, c + m, as those below m
numbers : {A : Type 0} (f : ℕ → A) (c m : ℕ) → map f (numbers_after c m) ≡ map (λ k. f (suc (c + k))) (range m)
unfolding numbers_after range
numbers f c zero = refl
numbers f c (suc m) =
    let one : suc m ≡ 1 + m = omega arith in
    let first : c + 1 ≡ suc (c + 0) = omega arith in
    ap (λ l. f (c + 1) ∷ l) (numbers f (c + 1) m ∙ map_cong _ _ (range m) (λ k i. let e : suc (c + 1 + k) ≡ suc (c + (1 + k)) = omega arith in ap f e))
    ∙ ap (λ x. f x ∷ map (λ k. f (suc (c + (1 + k)))) (range m)) first
    ∙ sym (ap (λ j. map (λ k. f (suc (c + k))) (range j)) one ∙ map_range (λ k. f (suc (c + k))) 1 m)

windows_listed : (g : List ℕ) → windows_of g ≡ listed (step (rule_of (rule_in g))) (round_of g) (start_of g)
unfolding windows_of window_after listed
windows_listed g =
    numbers (window_after g) 0 (round_of g)
    ∙ map_cong _ _ (range (round_of g)) (λ k i. let e : suc (0 + k) ≡ suc k = omega arith in ap (window_after g) e)

pub rounds_line_up : RoundsLineUp
unfolding round_of window_after
rounds_line_up S T g h bufferS bufferT kindG kindH acceptedS acceptedT size rule =
    let G = (left S g bufferS kindG acceptedS).good in
    let H = (left T h bufferT kindH acceptedT).good in
    let order : WeakOrder (length_in g) (rule_in g) (start_of h) = rw (size, rule) (start_order h (copy_after T h) H) in
    let b = between (listing g (copy_after S g) G) (start_of h) order in
    record {
      steps = b.steps;
      below = b.below;
      leads = b.leads;
      only = b.only;
      lists =
          windows_listed h
          ∙ ap₂ (λ r n. listed (step (rule_of r)) (a n) (start_of h)) (sym rule) (sym size)
          ∙ b.lists
          ∙ ap (moved b.steps) (sym (windows_listed g));
    }

pub lined_up_instance : LinedUpInstance
unfolding beginning beginning_at21 fresh odd lent exchange windows_of window_after start_of round_of
lined_up_instance =
    let lined = rounds_line_up fresh odd beginning beginning_at21 (lent 40) (lent 45) refl refl refl refl refl refl in
    record {
      lined = lined;
      two_steps = sym (lined.only 2 (omega arith) refl);
      first = refl;
      second = refl;
    }
