-- Rotation keeps both forms of a weak order. Assumes nothing.
use mathlib.Core.Bool.{true}
use mathlib.Core.List.{List}
use mathlib.Core.Path.{◌≡◌}
use Prim.Native.Nat.{ℕ}
use native.Mathlib.Omega.{arith}
use Rattle.weak_orders.specs.Window.{is_rank, is_height}
use Rattle.weak_orders.proofs.HeightForm.{says_height}
use Rattle.weak_orders.proofs.RankForm.{Rank, says_rank}
use Rattle.rotations.specs.Rotation.{rotation}
use Rattle.rotations.proofs.Rotations.{◌⟳◌, ⟳-sym, below_rotated, mem_rotated, turned_rotation}

pub rank_rotated : {w v : List ℕ} → w ⟳ v → Rank w → Rank v
rank_rotated c h x m = omega (arith, h x (mem_rotated c x m), below_rotated c x)

pub rank_rotation : (w : List ℕ) (i : ℕ) → is_rank w ≡ true → is_rank (rotation w i) ≡ true
rank_rotation w i h = (says_rank (rotation w i)).of (rank_rotated (turned_rotation w i) ((says_rank w).to h))

pub height_rotated : {w v : List ℕ} → w ⟳ v → is_height w ≡ true → is_height v ≡ true
height_rotated {w} {v} c t = (says_height v).of (λ x m y lt. mem_rotated (⟳-sym c) y ((says_height w).to t x (mem_rotated c x m) y lt))

pub height-rotation : (w : List ℕ) (i : ℕ) → is_height w ≡ true → is_height (rotation w i) ≡ true
height-rotation w i = height_rotated (turned_rotation w i)
