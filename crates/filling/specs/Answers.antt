-- What is answered to a pattern, for every list and n (document 02, Papers 1 and 8).
use Rattle.std.specs.Prelude.{cond, not, List, ℕ, Result, Ok, Err}
use Rattle.refusals.specs.declared.Cause.{Cause}
use Rattle.refusals.specs.declared.Cause.TheVariants.{WindowLength, NotWeakOrder, NoFilling}
use Rattle.weak_orders.specs.Converted.{answered}
use Rattle.weak_orders.specs.Window.{is_length}
use Rattle.filling.specs.Earliest.{earliest}
use Rattle.filling.specs.Pattern.{is_pattern, fillable}

-- tests 6, 8 and 15 of a pattern of n; 8 covers one that is not n long
unfoldable pub judged_pattern : ℕ → List ℕ → Result (Unit {0}) Cause
unfolding is_length is_pattern fillable
judged_pattern n p =
    cond (not (is_length n)) (Err WindowLength) (
    cond (not (is_pattern n p)) (Err NotWeakOrder) (
    cond (not (fillable n p)) (Err NoFilling)
    (Ok tt)))

-- the first weak order of n that agrees with the pattern
unfoldable pub fill_answer : ℕ → List ℕ → Result (List ℕ) Cause
unfolding judged_pattern answered earliest
fill_answer n p = answered (judged_pattern n p) (earliest n p)
