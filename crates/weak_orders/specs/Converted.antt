-- Windows judged and converted, for every array and n (document 01, "Turned down": direct calls).
use Rattle.std.specs.Prelude.{Bool, cond, not, ◌&&◌, List, ℕ, Result, Ok, Err, eqb, length, take}
use Rattle.refusals.specs.declared.Cause.{Cause}
use Rattle.refusals.specs.declared.Cause.TheVariants.{WindowLength, NotWeakOrder}
use Rattle.weak_orders.specs.Window.{is_length, is_rank, is_height, heights, ranks, padded}

-- the first n symbols of the array are a weak order of n in rank form; in height form
unfoldable pub is_rank_window : ℕ → List ℕ → Bool
unfolding is_length is_rank
is_rank_window n w = is_length n && is_rank (take n w)

unfoldable pub is_height_window : ℕ → List ℕ → Bool
unfolding is_length is_height
is_height_window n w = is_length n && is_height (take n w)

-- tests 6 and 8 of a window of n, where `formed` says whether it passes 8
unfoldable pub judged_by : ℕ → Bool → Result (Unit {0}) Cause
unfolding is_length
judged_by n formed =
    cond (not (is_length n)) (Err WindowLength) (
    cond (not formed) (Err NotWeakOrder)
    (Ok tt))

-- a window of n in a form; 8 covers one that is not n long
unfoldable pub judged_in : (List ℕ → Bool) → ℕ → List ℕ → Result (Unit {0}) Cause
unfolding judged_by
judged_in form n w = judged_by n (eqb (length w) n && form w)

-- accepted, with the window w, zeros behind; or refused
unfoldable pub answered : Result (Unit {0}) Cause → List ℕ → Result (List ℕ) Cause
unfolding padded
answered (Ok _) w = Ok (padded w)
answered (Err cause) w = Err cause

-- the two conversions
unfoldable pub rank_to_height : ℕ → List ℕ → Result (List ℕ) Cause
unfolding judged_in is_rank heights answered
rank_to_height n w = answered (judged_in is_rank n w) (heights w)

unfoldable pub height_to_rank : ℕ → List ℕ → Result (List ℕ) Cause
unfolding judged_in is_height ranks answered
height_to_rank n w = answered (judged_in is_height n w) (ranks w)
