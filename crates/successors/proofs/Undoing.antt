-- The undoing rule: 2 and 3 undo each other, so it is a rule just if the rule is one, and takes the same form. Assumes nothing.
use mathlib.Core.List.{List}
use mathlib.Core.Path.{◌≡◌, refl}
use Prim.Native.Nat.{ℕ}
use native.Mathlib.Decide.{ℕ_discrete}
use borrow.Author.Tests.{ne_eqb}
use Rattle.successors.specs.Rules.{in_form, is_rule}
use Rattle.successors.specs.StepBack.{undoing}

-- 2 and 3 undo each other, and any other number is its own
pub by_undoing : (P : ℕ → ℕ → Type 0) → P 2 3 → P 3 2 → ((r : ℕ) → P r r) → (r : ℕ) → P r (undoing r)
unfolding undoing
by_undoing P p q own r = elim (ℕ_discrete r 2) [
  | yes e ↦ rw e p
  | no x ↦ elim (ℕ_discrete r 3) [
    | yes e ↦ rw e q
    | no y ↦ rw (ne_eqb r 2 x, ne_eqb r 3 y) (own r)
  ]
]

-- it is a rule just if the rule is one, and takes the same form
pub undoing_known : (r : ℕ) → is_rule (undoing r) ≡ is_rule r
unfolding is_rule
undoing_known = by_undoing (λ r q. is_rule q ≡ is_rule r) refl refl (λ r. refl)

pub undoing_form : (r : ℕ) (w : List ℕ) → in_form (undoing r) w ≡ in_form r w
unfolding in_form
undoing_form r w = by_undoing (λ r q. in_form q w ≡ in_form r w) refl refl (λ r. refl) r
