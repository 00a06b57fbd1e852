-- The definitions of specs/Kinds.antt: a count over the list of the weak orders of n is the number of those that pass the test. Assumes nothing.
use mathlib.Core.Bool.{Bool, true}
use mathlib.Core.List.{List, ◌∷◌}
use mathlib.Core.Path.{◌≡◌, ◌∙◌}
use Prim.Native.Nat.{ℕ}
use lib.Dec.{eqb}
use lib.ListN.{length, length-map}
use Rattle.weak_orders.specs.Says.{Says}
use Rattle.weak_orders.specs.Window.{count, ranks}
use Rattle.weak_orders.proofs.Tests.{by_test, says_eq}
use Rattle.ranking.specs.Counts.{a}
use Rattle.ranking.specs.Dictionary.{height_windows}
use Rattle.ranking.specs.Numbering.{Exactly}
use Rattle.ranking.proofs.Completions.{height_windows-length}
use Rattle.ranking.proofs.Selected.{heights_selected, ranks_selected}
use Rattle.successors.specs.Rules.{rule_of, in_form, WeakOrder}
use Rattle.rotating_steps.specs.Kinds.{weak_orders, rotates}

pub selected : (r n : ℕ) (q : List ℕ → Bool) → Exactly (count q (weak_orders r n)) (λ w. WeakOrder n r w × (q w ≡ true))
unfolding weak_orders in_form
selected r n q = by_test (eqb r 1) (λ e. rw e (ranks_selected q n)) (λ e. rw e (heights_selected q n))

pub length-weak_orders : (r n : ℕ) → length (weak_orders r n) ≡ a n
unfolding weak_orders
length-weak_orders r n = by_test (eqb r 1)
    (λ e. rw e (length-map (height_windows n) ranks ∙ height_windows-length n))
    (λ e. rw e (height_windows-length n))

pub says_rotates : (r x : ℕ) (b : List ℕ) → Says (rotates r (x ∷ b)) (rule_of r (x ∷ b) ≡ x)
unfolding rotates
says_rotates r x b = says_eq (rule_of r (x ∷ b)) x
