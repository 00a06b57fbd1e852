-- What the count and the two searches answer for every argument (document 01, "Place" and "Turned down").
use Rattle.std.specs.Prelude.{cond, not, List, ℕ, Result, Ok, Err, ltb}
use Rattle.refusals.specs.declared.Cause.{Cause}
use Rattle.refusals.specs.declared.Cause.TheVariants.{WindowLength, NoSuchPlace}
use Rattle.weak_orders.specs.Converted.{judged_in, answered}
use Rattle.weak_orders.specs.Window.{is_length, is_height}
use Rattle.ranking.specs.Counts.{a}
use Rattle.ranking.specs.Dictionary.{place, window_at}

-- a(n) for an answer: test 6
unfoldable pub counted : ℕ → Result ℕ Cause
unfolding is_length a
counted n = cond (is_length n) (Ok (a n)) (Err WindowLength)

-- a number for an answer, where the window is accepted
unfoldable pub number_by : Result (Unit {0}) Cause → ℕ → Result ℕ Cause
number_by (Ok _) k = Ok k
number_by (Err cause) k = Err cause

-- the place of a height window of n
unfoldable pub placed : ℕ → List ℕ → Result ℕ Cause
unfolding number_by judged_in is_height place
placed n w = number_by (judged_in is_height n w) (place w)

-- document 01's places of n are 0 to a(n) - 1: tests 6 and 13
unfoldable pub judged_place : ℕ → ℕ → Result (Unit {0}) Cause
unfolding is_length a
judged_place n k =
    cond (not (is_length n)) (Err WindowLength) (
    cond (not (ltb k (a n))) (Err NoSuchPlace)
    (Ok tt))

-- the height window of n at a place
unfoldable pub located : ℕ → ℕ → Result (List ℕ) Cause
unfolding judged_place answered window_at
located n k = answered (judged_place n k) (window_at n k)
