-- What is proved of rotations, for windows of every length (document 01, "Windows" and "Rule 1"; document 02, Paper 5).
use Rattle.std.specs.Prelude.{Bool, true, ◌↔◌, ◌≡◌, ℕ, ◌+◌, ◌-◌, ◌*◌, ◌≤◌, ◌<◌, length}
use mathlib.Core.List.{List, [], ◌∷◌, Memᴰ}
use Rattle.weak_orders.specs.Window.{is_rank, is_height}
use Rattle.rotations.specs.Rotation.{rotation, rotations, is_least, is_greatest, start, start_greatest, period}

-- s is an index of w, counted from 1, from which w read cyclically passes the test, and the least such index
pub record IsStart (test : List ℕ → Bool) (w : List ℕ) (s : ℕ) : Type 0 where
  pub low : 1 ≤ s
  pub high : s ≤ length w
  pub passes : test (rotation w (s - 1)) ≡ true
  pub first : (i : ℕ) → i < length w → test (rotation w i) ≡ true → s ≤ i + 1

-- both forms are kept by rotation; start(w) is as document 01 says, and likewise for the greatest rotation
pub record Rotations : Type 0 where
  pub rank_rotation : (w : List ℕ) (i : ℕ) → is_rank w ≡ true → is_rank (rotation w i) ≡ true
  pub height-rotation : (w : List ℕ) (i : ℕ) → is_height w ≡ true → is_height (rotation w i) ≡ true
  pub least_start : (w : List ℕ) → 1 ≤ length w → IsStart (is_least w) w (start w)
  pub greatest_start : (w : List ℕ) → 1 ≤ length w → IsStart (is_greatest w) w (start_greatest w)

-- document 02's ring length of a window w
pub record PeriodOf (w : List ℕ) : Type 0 where
  -- the rotations from the first period w indices are all there are, and no two of them are the same
  pub every : (v : List ℕ) → Memᴰ v (rotations w) → (i : ℕ) × (i < period w) × (rotation w i ≡ v)
  pub apart : (i j : ℕ) → i < period w → j < period w → rotation w i ≡ rotation w j → i ≡ j
  -- it divides n
  pub divides : (k : ℕ) × (k * period w ≡ length w)
  -- and either start lies within it
  pub least_within : start w ≤ period w
  pub greatest_within : start_greatest w ≤ period w

-- the windows u and v, read from where the least rotation of each starts, are equal just if v is on u's ring; so too with the greatest
pub record OneRing (u v : List ℕ) : Type 0 where
  pub by_least : (rotation u (start u - 1) ≡ rotation v (start v - 1)) ↔ Memᴰ v (rotations u)
  pub by_greatest : (rotation u (start_greatest u - 1) ≡ rotation v (start_greatest v - 1)) ↔ Memᴰ v (rotations u)

-- of every window that is not empty, and any other window
pub record Periods : Type 0 where
  pub period_of : (w : List ℕ) → 1 ≤ length w → PeriodOf w
  pub one_ring : (u v : List ℕ) → 1 ≤ length u → OneRing u v

-- document 02's values, a window whose ends agree though nothing in it repeats, and where a greatest rotation starts
pub record PeriodValues : Type 0 where
  pub of_3131 : period (3 ∷ 1 ∷ 3 ∷ 1 ∷ []) ≡ 2
  pub of_1111 : period (1 ∷ 1 ∷ 1 ∷ 1 ∷ []) ≡ 1
  pub of_131 : period (1 ∷ 3 ∷ 1 ∷ []) ≡ 3
  pub greatest_0101 : start_greatest (0 ∷ 1 ∷ 0 ∷ 1 ∷ []) ≡ 2
