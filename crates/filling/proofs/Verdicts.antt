-- What an accepted pattern has passed. Assumes nothing.
use mathlib.Core.Bool.{true}
use mathlib.Core.List.{List}
use mathlib.Core.Path.{◌≡◌}
use Prim.Native.Nat.{ℕ, ◌≤◌}
use Rattle.std.specs.Prelude.{Ok}
use Rattle.weak_orders.specs.Window.{is_length}
use Rattle.weak_orders.proofs.FormTests.{says_length}
use Rattle.weak_orders.proofs.Judged.{refused}
use Rattle.weak_orders.proofs.Tests.{by_test}
use Rattle.filling.specs.Answers.{judged_pattern}
use Rattle.filling.specs.Pattern.{is_pattern, fillable}

pub accepted_pattern : (n : ℕ) (p : List ℕ) → judged_pattern n p ≡ Ok tt → (n ≤ 16) × (is_pattern n p ≡ true) × (fillable n p ≡ true)
unfolding judged_pattern
accepted_pattern n p e = by_test (is_length n)
    (λ a. by_test (is_pattern n p)
    (λ b. by_test (fillable n p) (λ f. (((says_length n).to a).1, b, f)) (λ f. absurd (refused (rw (a, b, f) at e))))
    (λ b. absurd (refused (rw (a, b) at e))))
    (λ a. absurd (refused (rw a at e)))
