-- A window in its array, and its parts. Assumes nothing.
use mathlib.Core.List.Memᴰ
use mathlib.Core.List.{List, [], ◌∷◌}
use mathlib.Core.Path.{◌≡◌, refl, sym, ap, ◌∙◌}
use Prim.Native.Nat.{ℕ, zero, suc, ◌-◌, ◌≤◌, ◌<◌}
use native.Mathlib.Omega.{arith}
use lib.ListN.{length, take, drop, get_or, set, take-append-drop}
use lib.Seq.{length-take-le, take-take, drop-cons, get_or-take}
use Rattle.weak_orders.proofs.Lists.{mem_take, get_or_in}
use Rattle.weak_orders.proofs.Parts.{window_front, window_set}
use Rattle.weak_orders.proofs.RankForm.{Rank, rank_one, rank_positive}
use Rattle.weak_orders.proofs.Tests.{◌∈◌, here}
use Rattle.rotations.specs.Rotation.{start, rotation}
use Rattle.rotations.proofs.Orders.{lex_head}
use Rattle.rotations.proofs.Rotations.{start_first, to_front}
use Rattle.successors.specs.Rules.{before}

-- n symbols, 1 to 16 of them, stand first in an array of 16
pub record InArray (w : List ℕ) (n : ℕ) : Type 0 where
  pub long : length w ≡ 16
  pub some : 1 ≤ n
  pub most : n ≤ 16

module _ {w : List ℕ} {n : ℕ} (a : InArray w n) where
  pub size : length (take n w) ≡ n
  size = length-take-le n w (omega arith)

  pub parts : take n w ≡ get_or w 0 0 ∷ drop 1 (take n w)
  parts = window_front w n (omega arith) a.some

  pub first_in : get_or w 0 0 ∈ take n w
  first_in = rw parts here

  pub with_first : (x : ℕ) → take n (set w 0 x) ≡ x ∷ drop 1 (take n w)
  with_first x = window_set w n x a.some (omega arith)

-- a member of a part is a member of the whole
pub mem_part : (a j : ℕ) (l : List ℕ) (v : ℕ) → v ∈ drop a (take j l) → v ∈ l
mem_part a j l v m = mem_take j l v (rw take-append-drop at (Memᴰ.append_right (take a (take j l)) m))

-- `start` is an index of the window
pub start_bounds : (w : List ℕ) → 0 < length w → (1 ≤ start w) × (start w ≤ length w)
start_bounds [] lt = absurd (omega arith)
start_bounds (x ∷ b) lt = let (i, e, s) = start_first x b in omega (arith, s.inside)

-- in rank form a 1 stands there
pub start_one : (x : ℕ) (b : List ℕ) → Rank (x ∷ b) → get_or (x ∷ b) (start (x ∷ b) - 1) 0 ≡ 1
unfolding rotation
start_one x b rank =
    let (i, e, s) = start_first x b in
    let (d, c) = to_front (x ∷ b) 1 (rank_one (x ∷ b) rank x here) in
    let low = lex_head _ _ 1 d (rw (drop-cons (x ∷ b) i 0 s.inside) at (s.lowest (1 ∷ d) c)) in
    let q : start (x ∷ b) - 1 ≡ i = omega arith in
    rw q (omega (arith, low, rank_positive (x ∷ b) rank (get_or (x ∷ b) i 0) (get_or_in (x ∷ b) i 0 s.inside)))

-- what stands behind the first symbol does not depend on it
behind : (x y : ℕ) (b : List ℕ) (k : ℕ) → 0 < k → get_or (x ∷ b) k 0 ≡ get_or (y ∷ b) k 0
behind x y b zero lt = absurd (omega arith)
behind x y b (suc k) lt = refl

-- so with a larger symbol first, the 1 stands behind it
pub one_behind : {w : List ℕ} {n : ℕ} (a : InArray w n) (x : ℕ) → 1 < x → Rank (x ∷ drop 1 (take n w)) →
    let k = start (x ∷ drop 1 (take n w)) - 1 in
    (0 < k) × (k < n) × (get_or w k 0 ≡ 1)
one_behind {w} {n} a x big rank =
    let b = drop 1 (take n w) in
    let k = start (x ∷ b) - 1 in
    let one = start_one x b rank in
    let long : length (x ∷ b) ≡ n = ap length (sym (parts a)) ∙ size a in
    let (low, high) = start_bounds (x ∷ b) (omega arith) in
    let pos : ¬ (k ≡ 0) = λ e. omega (arith, rw e at one) in
    let same : get_or (x ∷ b) k 0 ≡ get_or (take n w) k 0 = behind x (get_or w 0 0) b k (omega arith) ∙ ap (λ l. get_or l k 0) (sym (parts a)) in
    (omega arith, omega arith, sym (get_or-take n w k 0 (omega arith)) ∙ sym same ∙ one)

-- the symbols before `start`, in the array
pub before_array : (w : List ℕ) (n t : ℕ) → t - 1 ≤ n → before t (take n w) ≡ drop 1 (take (t - 1) w)
unfolding before
before_array w n t le = rw (take-take (t - 1) n w le)
