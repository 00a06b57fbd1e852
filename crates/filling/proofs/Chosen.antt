-- What is chosen for the first open place: 0 where there are more open places than missing heights, and else the least missing height, which
-- no missing one is below. Assumes nothing.
use mathlib.Core.Bool.{Bool, true, false, not}
use mathlib.Core.List.{List, ◌∷◌, ◌++◌}
use mathlib.Core.Path.{◌≡◌, ap, ◌∙◌}
use Prim.Native.Nat.{ℕ, ◌≤◌, ◌<◌}
use native.Mathlib.Omega.{arith}
use lib.ListN.{get_or}
use borrow.Author.Tests.{lt-ltb, le-ltb}
use Rattle.weak_orders.specs.Window.{range, occurs, bound}
use Rattle.weak_orders.proofs.Lists.{first_index_lem, length-range, get_or_range}
use Rattle.filling.specs.Choice.{least_missing, choice}
use Rattle.filling.specs.Pattern.{is_open, fixed, open_places, missing}
use Rattle.filling.proofs.Patterns.{fixed_open, fixed_append}

-- the least missing height, where there is one
module _ (w : List ℕ) where
  abbrev pub test : ℕ → Bool
  test v = not (occurs w v)

  pub least_up_to : (j : ℕ) → j < bound w → occurs w j ≡ false →
      (least_missing w ≤ j) × (test (get_or (range (bound w)) (least_missing w) 0) ≡ true)
  unfolding least_missing
  least_up_to j lt o = first_index_lem test (range (bound w)) 0 j (omega (arith, length-range (bound w)))
      (ap test (get_or_range (bound w) j lt) ∙ ap not o)

-- the choice for a pattern with an open place between u and v
module _ (u v : List ℕ) (b : ℕ) (o : is_open b ≡ true) where
  pub fixed-before : fixed (u ++ (b ∷ v)) ≡ fixed u ++ fixed v
  fixed-before = fixed_append u (b ∷ v) ∙ ap (λ k. fixed u ++ k) (fixed_open b v o)

  pub choice_spare : missing (u ++ (b ∷ v)) < open_places (u ++ (b ∷ v)) → choice (u ++ (b ∷ v)) ≡ 0
  unfolding choice
  choice_spare lt = rw (lt-ltb (missing (u ++ (b ∷ v))) (open_places (u ++ (b ∷ v))) lt)

  pub choice_tight : open_places (u ++ (b ∷ v)) ≤ missing (u ++ (b ∷ v)) → choice (u ++ (b ∷ v)) ≡ least_missing (fixed u ++ fixed v)
  unfolding choice
  choice_tight le = rw (le-ltb (missing (u ++ (b ∷ v))) (open_places (u ++ (b ∷ v))) le, fixed-before)
