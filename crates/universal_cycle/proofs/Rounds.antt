-- The universal cycle theorem: from any weak order of n in a rule's form, a(n) steps meet each once and end at the start.
-- Assumes nothing.
use mathlib.Core.List.{List}
use Prim.Native.Nat.{ℕ, suc, zero, ◌<◌}
use native.Mathlib.Omega.{arith}
use lib.ListN.{length}
use Rattle.rotations.proofs.Rotations.{turn}
use Rattle.ranking.specs.Counts.{a}
use Rattle.ranking.specs.Numbering.{Numbering}
use Rattle.ranking.proofs.Places.{heights-numbered, ranks-numbered}
use Rattle.successors.specs.Rules.{rule1, rule2, rule3, rule_of, in_form, WeakOrder, step}
use Rattle.successors.proofs.FirstSymbol.{change, turn_change}
use Rattle.successors.proofs.RuleNumbers.{by_rule}
use Rattle.universal_cycle.specs.Round.{Tour, UniversalCycle}
use Rattle.universal_cycle.proofs.Agreeing.{same_tour}
use Rattle.universal_cycle.proofs.Joined.{Joined, one_cycle}
use Rattle.universal_cycle.proofs.RotationClasses1.{joined1}
use Rattle.universal_cycle.proofs.RotationClasses23.{joined, joined2, joined3}

-- A step is the rule's change of the first symbol and a rotation by one, so what the two join is one cycle of steps.
steps : (rule : List ℕ → ℕ) {P : List ℕ → Type 0} {depth : List ℕ → ℕ} {Exit : List ℕ → Type 0} {root : List ℕ} →
    Joined P turn (change rule) depth Exit root → ((w : List ℕ) → P w → 0 < length w) →
    {N : ℕ} {place : List ℕ → ℕ} {item : ℕ → List ℕ} → Numbering P N place item → (s : List ℕ) → P s → Tour P (step rule) N s
steps rule joined long L s p = same_tour
    (λ w q. joined.ρ_in (change rule w) (joined.τ_in w q))
    (λ w q. turn_change rule w (long w q))
    p
    (one_cycle joined L s p)

-- The theorem.
pub universal_cycle : UniversalCycle
unfolding rule_of in_form
universal_cycle r t zero pos = absurd (omega arith)
universal_cycle r t (suc m) pos = by_rule
    (λ r. (s : List ℕ) → WeakOrder (suc m) r s → Tour (WeakOrder (suc m) r) (step (rule_of r)) (a (suc m)) s)
    (steps rule1 (joined1 m) (λ w p. omega arith) (ranks-numbered (suc m)))
    (steps rule2 (joined2 m) (λ w p. omega arith) (heights-numbered (suc m)))
    (steps rule3 (joined3 m) (λ w p. omega arith) (heights-numbered (suc m)))
    r t
