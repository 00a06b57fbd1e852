-- The height that is put into the first open place of a pattern (for private functions; Earliest.antt says what comes of it).
use Rattle.std.specs.Prelude.{not, cond, List, ℕ, ltb}
use Rattle.weak_orders.specs.Window.{first_index, range, occurs, bound}
use Rattle.filling.specs.Pattern.{is_open, fixed, open_places, missing}

-- the least height that w does not have, of those up to its largest
unfoldable pub least_missing : List ℕ → ℕ
unfolding first_index occurs range bound
least_missing w = first_index (λ v. not (occurs w v)) (range (bound w))

-- the height for the first open place of p: 0 while there are more open places than missing heights, and then the least missing one
unfoldable pub choice : List ℕ → ℕ
unfolding missing open_places fixed least_missing
choice p = cond (ltb (missing p) (open_places p)) 0 (least_missing (fixed p))

-- the height for a place of p that has the byte b: that byte, unless it is open
unfoldable pub height_for : List ℕ → ℕ → ℕ
unfolding choice
height_for p b = cond (is_open b) (choice p) b
