-- A round of a rule, and the claim that it is a universal cycle (002, section 1; document 01, "Two benches").
use Rattle.std.specs.Prelude.{true, List, ◌≡◌, ℕ, ◌≤◌}
use Rattle.weak_orders.specs.Window.{iter}
use Rattle.ranking.specs.Counts.{a}
use Rattle.successors.specs.Rules.{rule_of, WeakOrder, is_rule, step}

-- of N steps of f from s exactly one leads to w
pub record Once {A : Type 0} (f : A → A) (N : ℕ) (s w : A) : Type 0 where
  pub when : ℕ
  pub first : 1 ≤ when
  pub last : when ≤ N
  pub met : iter f when s ≡ w
  pub only : (k : ℕ) → 1 ≤ k → k ≤ N → iter f k s ≡ w → k ≡ when

-- N steps of f from s stay among the things that P holds of, meet each of them once, and end at s
pub record Tour {A : Type 0} (P : A → Type 0) (f : A → A) (N : ℕ) (s : A) : Type 0 where
  pub closed : iter f N s ≡ s
  pub kept : (k : ℕ) → P (iter f k s)
  pub once : (w : A) → P w → Once f N s w

-- a round: from any weak order of n in the rule's form, a(n) steps meet each weak order of n once and end at the start
abbrev pub UniversalCycle : Type 0
UniversalCycle =
    (r : ℕ) → is_rule r ≡ true → (n : ℕ) → 1 ≤ n →
    (s : List ℕ) → WeakOrder n r s → Tour (WeakOrder n r) (step (rule_of r)) (a n) s
