-- What is counted for a length, and when the search for a window finds one. Assumes nothing.
use mathlib.Core.Bool.{true, cond}
use mathlib.Core.Path.{◌≡◌}
use Prim.Native.Nat.{ℕ, ◌≤◌, ◌<◌}
use native.Mathlib.Omega.{arith}
use lib.Dec.{leb}
use borrow.Author.Tests.{le-leb, lt-ltb, le-ltb}
use Rattle.std.specs.Prelude.{Ok, Err}
use Rattle.refusals.specs.declared.Cause.{Cause}
use Rattle.refusals.specs.declared.Cause.TheVariants.{NoSuchPlace}
use Rattle.weak_orders.specs.Window.{is_length}
use Rattle.weak_orders.proofs.FormTests.{says_length}
use Rattle.weak_orders.proofs.Tests.{by_test}
use Rattle.ranking.specs.Answers.{counted, judged_place}
use Rattle.ranking.specs.Counts.{a}

-- the count as code has it
pub count_of : (n : ℕ) → is_length n ≡ true → (r : ℕ) → r ≡ cond (leb n 16) (a n) 0 → r ≡ a n
count_of n long r e = rw (le-leb n 16 ((says_length n).to long).1) at e

-- a number is given for a length alone
pub counted_length : (n r : ℕ) → counted n ≡ Ok r → (is_length n ≡ true) × (r ≡ a n)
unfolding counted
counted_length n r e = by_test (is_length n) (λ t. (t, let h = rw t at e in cc)) (λ t. let h = rw t at e in cc)

module _ (n k : ℕ) where
  -- and otherwise the place is refused for the same cause
  pub place-uncounted : (c : Cause) → counted n ≡ Err c → judged_place n k ≡ Err c
  unfolding counted judged_place
  place-uncounted c e = by_test (is_length n) (λ t. let h = rw t at e in cc) (λ t. rw t (let h = rw t at e in cc))

  -- the places end at the count
  module _ (r : ℕ) (e : counted n ≡ Ok r) where
    pub place_past : r ≤ k → judged_place n k ≡ Err NoSuchPlace
    unfolding judged_place
    place_past h = let (long, at) = counted_length n r e in rw (long, le-ltb k (a n) (omega arith))

    pub place-below : k < r → (n ≤ 16) × (k < a n)
    place-below h = let (long, at) = counted_length n r e in (((says_length n).to long).1, omega arith)

    pub place_within : k < r → judged_place n k ≡ Ok tt
    unfolding judged_place
    place_within h = rw ((counted_length n r e).0, lt-ltb k (a n) (place-below h).1)
