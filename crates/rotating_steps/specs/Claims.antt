-- What is proved of these numbers, for every rule and every n (document 02, Paper 7).
use Rattle.std.specs.Prelude.{true, false, ◌↔◌, ◌≡◌, ℕ, ◌+◌, ◌-◌, ◌*◌, ◌≤◌, length}
use mathlib.Core.List.{List, [], ◌∷◌, map, Memᴰ}
use Rattle.rotations.specs.Rotation.{rotation, rotations}
use Rattle.ranking.specs.Counts.{a}
use Rattle.ranking.specs.Numbering.{Exactly}
use Rattle.successors.specs.Rules.{rule_of, WeakOrder, step}
use Rattle.rotating_steps.specs.Kinds.{rotates, same, other, necklace_of, is_necklace, necklaces}
use Rattle.rotating_steps.specs.Tallied.{tallied}

-- the ring of the weak order w of n holds exactly one necklace, and that is a weak order of n
pub record OneLeast (n : ℕ) (w : List ℕ) : Type 0 where
  pub on_ring : Memᴰ (necklace_of w) (rotations w)
  pub weak_order : WeakOrder n 1 (necklace_of w)
  pub necklace : is_necklace (necklace_of w) ≡ true
  pub only : (v : List ℕ) → Memᴰ v (rotations w) → is_necklace v ≡ true → v ≡ necklace_of w

pub record StepKinds : Type 0 where
  -- a step that appends the dropped symbol rotates the window by one, and any other leads to another ring
  pub by_one : (r : ℕ) (w : List ℕ) → 1 ≤ length w → rotates r w ≡ true → step (rule_of r) w ≡ rotation w 1
  pub to_another : (r : ℕ) (w : List ℕ) → 1 ≤ length w → rotates r w ≡ false → ¬ Memᴰ (step (rule_of r) w) (rotations w)
  -- each is the number of weak orders of n in the rule's form with that property, and together they are all
  pub counted_same : (r n : ℕ) → Exactly (same r n) (λ w. WeakOrder n r w × (rotates r w ≡ true))
  pub counted-other : (r n : ℕ) → Exactly (other r n) (λ w. WeakOrder n r w × (rotates r w ≡ false))
  pub sums : (r n : ℕ) → same r n + other r n ≡ a n
  -- the rings are counted by their necklaces: each has one, which all weak orders on the ring share, and no others
  pub counted-necklaces : (n : ℕ) → Exactly (necklaces n) (λ w. WeakOrder n 1 w × (is_necklace w ≡ true))
  pub one_least : (n : ℕ) → 1 ≤ n → (w : List ℕ) → WeakOrder n 1 w → OneLeast n w
  pub same_least : (n : ℕ) → 1 ≤ n → (u v : List ℕ) → WeakOrder n 1 u → WeakOrder n 1 v → (necklace_of u ≡ necklace_of v) ↔ Memᴰ v (rotations u)
  -- under rule 1 there are two such steps for each ring but one
  pub rule_1 : (n : ℕ) → 1 ≤ n → other 1 n ≡ 2 * (necklaces n - 1)
  -- document 02's values
  pub same_of_3 : same 1 3 ≡ 5
  pub other_of_3 : other 1 3 ≡ 8
  pub necklaces_of_3 : necklaces 3 ≡ 5

-- by computation, and the laws at work: nothing in them is vacuous
pub record Examples : Type 0 where
  -- in case 2 the only 1 is followed by 1, and of several ones the first by their number
  pub one_alone : rotates 1 (1 ∷ 2 ∷ 3 ∷ []) ≡ true
  pub all_ones : rotates 1 (1 ∷ 1 ∷ 1 ∷ []) ≡ false
  -- the six weak orders of 3 without a tie lie on two rings
  pub of_312 : necklace_of (3 ∷ 1 ∷ 2 ∷ []) ≡ (1 ∷ 2 ∷ 3 ∷ [])
  pub of_321 : necklace_of (3 ∷ 2 ∷ 1 ∷ []) ≡ (1 ∷ 3 ∷ 2 ∷ [])
  pub one_of_312 : OneLeast 3 (3 ∷ 1 ∷ 2 ∷ [])
  -- what `tally_of` answers, and where it answers zeros
  pub tally_of_3 : tallied 1 3 ≡ record { same = 5; other = 8 }
  pub no_n : map (tallied 1) (0 ∷ 9 ∷ []) ≡ (record { same = 0; other = 0 } ∷ record { same = 0; other = 0 } ∷ [])
  pub no_rule : map (λ r. tallied r 3) (0 ∷ 4 ∷ []) ≡ (record { same = 0; other = 0 } ∷ record { same = 0; other = 0 } ∷ [])
  -- the numbers for n from 1 to 4
  pub other_1 : map (other 1) (1 ∷ 2 ∷ 3 ∷ 4 ∷ []) ≡ (0 ∷ 2 ∷ 8 ∷ 38 ∷ [])
  pub other_2 : map (other 2) (1 ∷ 2 ∷ 3 ∷ 4 ∷ []) ≡ (0 ∷ 2 ∷ 7 ∷ 32 ∷ [])
  pub other_3 : map (other 3) (1 ∷ 2 ∷ 3 ∷ 4 ∷ []) ≡ (0 ∷ 2 ∷ 7 ∷ 32 ∷ [])
  pub necklaces_first : map necklaces (1 ∷ 2 ∷ 3 ∷ 4 ∷ []) ≡ (1 ∷ 2 ∷ 5 ∷ 20 ∷ [])
