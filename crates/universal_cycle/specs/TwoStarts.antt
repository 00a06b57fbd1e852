-- Two starts of one round (document 02, Paper 13): the steps between them, and how their lists of windows differ.
use Rattle.std.specs.Prelude.{true, List, ◌++◌, map, ◌≡◌, ℕ, suc, ◌≤◌, ◌<◌, take, drop}
use Rattle.weak_orders.specs.Window.{range, iter}
use Rattle.ranking.specs.Counts.{a}
use Rattle.successors.specs.Rules.{rule_of, WeakOrder, is_rule, step}

-- what the steps 1 to N of f from s come to, in order
unfoldable pub listed : {A : Type 0} → (A → A) → ℕ → A → List A
unfolding range iter
listed f N s = map (λ k. iter f (suc k) s) (range N)

-- the list l with c taken from its front and put at its end
unfoldable pub moved : {A : Type 0} → ℕ → List A → List A
moved c l = drop c l ++ take c l

-- exactly one number of steps below N leads from u to v, and the list of v is that of u with so many moved from its front to its end
pub record Between {A : Type 0} (f : A → A) (N : ℕ) (u v : A) : Type 0 where
  pub steps : ℕ
  pub below : steps < N
  pub leads : iter f steps u ≡ v
  pub only : (k : ℕ) → k < N → iter f k u ≡ v → k ≡ steps
  pub lists : listed f N v ≡ moved steps (listed f N u)

-- document 02's "for any two weak orders of n in the rule's form"
abbrev pub TwoStarts : Type 0
TwoStarts =
    (r : ℕ) → is_rule r ≡ true → (n : ℕ) → 1 ≤ n →
    (u v : List ℕ) → WeakOrder n r u → WeakOrder n r v → Between (step (rule_of r)) (a n) u v
