-- Each rotation class of weak orders has one necklace. Assumes nothing.
use mathlib.Core.Bool.{true}
use mathlib.Core.List.{List, [], ◌∷◌}
use mathlib.Core.Path.{◌≡◌, ◌∙◌}
use Prim.Native.Nat.{ℕ, ◌-◌, ◌≤◌}
use native.Mathlib.Omega.{arith}
use lib.ListN.{length}
use Rattle.weak_orders.specs.Says.{Says}
use Rattle.weak_orders.proofs.Iterates.{◌⨟◌}
use Rattle.rotations.specs.Order.{lex_le}
use Rattle.rotations.specs.Rotation.{start}
use Rattle.rotations.proofs.Forms.{rank_rotation}
use Rattle.rotations.proofs.Orders.{lex_antisymm}
use Rattle.rotations.proofs.Rotations.{◌⟳◌, ⟳-sym, length_rotated, turned_rotation, says_least, start_first}
use Rattle.ranking.specs.Numbering.{RankWindow}
use Rattle.rotating_steps.specs.Kinds.{necklace_of, is_necklace}

-- A necklace stands before all its rotations, or is the same.
pub says_necklace : (w : List ℕ) → 1 ≤ length w → Says (is_necklace w) ((v : List ℕ) → w ⟳ v → lex_le w v ≡ true)
unfolding is_necklace
says_necklace [] pos = absurd (omega arith)
says_necklace (x ∷ b) pos = says_least x b (x ∷ b)

-- So a rotation of a necklace that is a necklace too is the same one.
pub one_necklace : (u v : List ℕ) → 1 ≤ length u → u ⟳ v → is_necklace u ≡ true → is_necklace v ≡ true → u ≡ v
one_necklace u v pos c t t' = lex_antisymm u v
    ((says_necklace u pos).to t v c)
    ((says_necklace v (omega (arith, length_rotated c))).to t' u (⟳-sym c))

-- And every window has one among its rotations.
pub necklace_rotated : (w : List ℕ) → w ⟳ necklace_of w
unfolding necklace_of
necklace_rotated w = turned_rotation w (start w - 1)

necklace_first : (w : List ℕ) → 1 ≤ length w → (v : List ℕ) → w ⟳ v → lex_le (necklace_of w) v ≡ true
unfolding necklace_of
necklace_first [] pos = absurd (omega arith)
necklace_first (x ∷ b) pos =
    let (i, e, S) = start_first x b in
    let at : start (x ∷ b) - 1 ≡ i = omega arith in
    rw at S.lowest

pub necklace_is : (w : List ℕ) → 1 ≤ length w → is_necklace (necklace_of w) ≡ true
necklace_is w pos =
    let c = necklace_rotated w in
    (says_necklace (necklace_of w) (omega (arith, length_rotated c))).of (λ v d. necklace_first w pos v (c ⨟ d))

pub necklace_rank : (n : ℕ) (w : List ℕ) → RankWindow n w → RankWindow n (necklace_of w)
unfolding necklace_of
necklace_rank n w (e, h) = (length_rotated (necklace_rotated w) ∙ e, rank_rotation w (start w - 1) h)
