-- How many weak orders of n a rule follows by the symbol that they drop, and how many by another (document 02, Paper 7; its "turning" is a step
-- that rotates the window, its "crossing" any other step). Necklaces are those of source 000.
use Rattle.std.specs.Prelude.{Bool, cond, not, List, map, ℕ, ◌-◌, eqb, get_or}
use Rattle.weak_orders.specs.Window.{count, ranks}
use Rattle.rotations.specs.Rotation.{rotation, is_least, start}
use Rattle.ranking.specs.Dictionary.{height_windows}
use Rattle.successors.specs.Rules.{rule_of}

-- the weak orders of n in the form of the rule r, each once
unfoldable pub weak_orders : ℕ → ℕ → List (List ℕ)
unfolding height_windows ranks
weak_orders r n = cond (eqb r 1) (map ranks (height_windows n)) (height_windows n)

-- the symbol that the rule r appends to w is the one that is dropped, so that the step rotates w
unfoldable pub rotates : ℕ → List ℕ → Bool
unfolding rule_of
rotates r w = eqb (rule_of r w) (get_or w 0 0)

-- document 02's `same` and `other`: the weak orders of n that a step rotates, and those that it does not
unfoldable pub same : ℕ → ℕ → ℕ
unfolding count rotates weak_orders
same r n = count (rotates r) (weak_orders r n)

unfoldable pub other : ℕ → ℕ → ℕ
unfolding count rotates weak_orders
other r n = count (λ w. not (rotates r w)) (weak_orders r n)

-- the necklace of w: its least rotation
unfoldable pub necklace_of : List ℕ → List ℕ
unfolding rotation start
necklace_of w = rotation w (start w - 1)

-- w is a necklace: its own least rotation
unfoldable pub is_necklace : List ℕ → Bool
unfolding is_least
is_necklace w = is_least w w

-- the number of document 02's rings of n: each holds one necklace
unfoldable pub necklaces : ℕ → ℕ
unfolding count is_necklace weak_orders
necklaces n = count is_necklace (weak_orders 1 n)
