-- The rotations of a window: which of them is least or greatest in dictionary order, and how many are different (document 01, "Rule 1" and
-- "Rules 2 and 3"; document 02, Paper 5).
use Rattle.std.specs.Prelude.{Bool, cond, not, List, ◌++◌, map, ℕ, suc, Option, Some, None, ◌-◌, length, take, drop}
use Rattle.weak_orders.specs.Window.{all, count, first_index, range}
use Rattle.rotations.specs.Order.{lex_le, same}
use Rattle.rotations.specs.declared.Rotation.{Rotation}

-- w read cyclically from its index i, counted from 0
unfoldable pub rotation : List ℕ → ℕ → List ℕ
rotation w i = drop i w ++ take i w

-- w turned back by one: its newest symbol in front of the others
unfoldable pub turned_back : List ℕ → List ℕ
unfolding rotation
turned_back w = rotation w (length w - 1)

-- document 02's ring: all rotations of w
unfoldable pub rotations : List ℕ → List (List ℕ)
unfolding range rotation
rotations w = map (rotation w) (range (length w))

-- no rotation of w stands before u
unfoldable pub is_least : List ℕ → List ℕ → Bool
unfolding all lex_le rotations
is_least w u = all (lex_le u) (rotations w)

-- no rotation of w stands after u
unfoldable pub is_greatest : List ℕ → List ℕ → Bool
unfolding all lex_le rotations
is_greatest w u = all (λ v. lex_le v u) (rotations w)

-- document 01's start(w): the least index, counted from 1, at which w read cyclically is its least rotation
unfoldable pub start : List ℕ → ℕ
unfolding first_index is_least rotations
start w = suc (first_index (is_least w) (rotations w))

-- the least index, counted from 1, at which w read cyclically is its greatest rotation
unfoldable pub start_greatest : List ℕ → ℕ
unfolding first_index is_greatest rotations
start_greatest w = suc (first_index (is_greatest w) (rotations w))

-- the rotation from index i, counted from 0, is none of those from an earlier index
unfoldable pub is_new : List ℕ → ℕ → Bool
unfolding all same rotation range
is_new w i = all (λ j. not (same (rotation w j) (rotation w i))) (range i)

-- document 02's ring length: the number of different rotations
unfoldable pub period : List ℕ → ℕ
unfolding count is_new range
period w = count (is_new w) (range (length w))

-- where the least rotation starts and where the greatest does, each with the period
unfoldable pub least_rotation : List ℕ → Rotation
unfolding start period
least_rotation w = record { start = start w; period = period w }

unfoldable pub greatest_rotation : List ℕ → Rotation
unfolding start_greatest period
greatest_rotation w = record { start = start_greatest w; period = period w }

-- the period, where w is its own greatest rotation; where another is greater, none
unfoldable pub own_standing : List ℕ → Option ℕ
unfolding is_greatest period
own_standing w = cond (is_greatest w w) (Some (period w)) None
