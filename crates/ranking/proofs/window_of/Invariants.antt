-- `ranking::window_of` meets its contract. The loop's invariant: the array holds the first i symbols of the window, and `left` is its place
-- among the windows that begin so. Assumes nothing.
use mathlib.Core.Path.{◌≡◌}
use lib.ListN.{take}
use Rattle.weak_orders.specs.Window.{padded}
use Rattle.ranking.specs.Dictionary.{window_at}
use Rattle.ranking.proofs.WindowAt.{Reached}
use Rattle.ranking.proofs.window_of.Given as goal

abbrev pub invariant-loop-i : goal.invariant-loop-i
invariant-loop-i l = (l.window ≡ padded (take l.i (window_at l.n l.place))) × Reached l.n (window_at l.n l.place) l.i l.left
