-- The newest symbol after a number of steps.
use Rattle.std.specs.Prelude.{List, ℕ, ◌-◌, get_or}
use Rattle.weak_orders.specs.Window.{iter, loaded}
use Rattle.successors.specs.NextSymbol.{judged, answer_by, next_number, step_or_stay}

-- from the window in a slice; tested, and told, as the next symbol is
unfoldable pub walked : ℕ → ℕ → List ℕ → ℕ → ℕ
unfolding answer_by judged
walked n rule w count = next_number (answer_by (judged rule n w) (get_or (iter (step_or_stay rule n) count (loaded n w)) (n - 1) 0))
