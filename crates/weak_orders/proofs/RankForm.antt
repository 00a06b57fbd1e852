-- Windows in rank form. Assumes nothing.
use mathlib.Core.List.Memᴰ
use mathlib.Core.List.{List, ◌∷◌}
use mathlib.Core.Logic.{◌↔◌}
use mathlib.Core.Path.{◌≡◌}
use Prim.Native.Nat.{ℕ, suc, ◌+◌, ◌≤◌, ◌<◌}
use native.Mathlib.Omega.{arith}
use native.Mathlib.Decide.{dec_lt}
use lib.ListN.{length}
use Rattle.weak_orders.specs.Says.{Says}
use Rattle.weak_orders.specs.Window.{num, below, is_rank}
use Rattle.weak_orders.proofs.Symbols.{num_mem, below_less, below_more, below_le_length, below_suc, below_zero, below_mono}
use Rattle.weak_orders.proofs.Symbols.{below-flat, least_from}
use Rattle.weak_orders.proofs.Tests.{◌∈◌, there, split_mem, says_eq, says_all}

-- each symbol is 1 plus the number of places that hold a smaller one
abbrev pub Rank : List ℕ → Type 0
Rank w = (v : ℕ) → v ∈ w → v ≡ suc (below w v)

pub says_rank : (w : List ℕ) → Says (is_rank w) (Rank w)
unfolding is_rank
says_rank w = says_all (λ v. says_eq v (suc (below w v))) w

pub rank_positive : (w : List ℕ) → Rank w → (x : ℕ) → x ∈ w → 0 < x
rank_positive w h x m = omega (arith, h x m)

pub rank_le_length : (w : List ℕ) → Rank w → (x : ℕ) → x ∈ w → x ≤ length w
rank_le_length w h x m = omega (arith, h x m, below_suc w x, (num_mem w x).1 m, below_le_length w (suc x))

-- Where x > v both occur, x is at least v + num v; and v + num v occurs.
pub rank_gap : (w : List ℕ) → Rank w → (v x : ℕ) → v ∈ w → x ∈ w → v < x → v + num w v ≤ x
rank_gap w h v x m k lt = omega (arith, h v m, h x k, below_suc w v, below_mono w (suc v) x lt)

pub rank_next : (w : List ℕ) → Rank w → (v x : ℕ) → v ∈ w → x ∈ w → v < x → v + num w v ∈ w
rank_next w h v x m k lt =
    let (y, l, le, low) = least_from w (suc v) x k lt in
    Memᴰ.cast (omega (arith, h v m, h y l, below_suc w v, below-flat w (suc v) y le low)) l

pub rank_one : (w : List ℕ) → Rank w → (x : ℕ) → x ∈ w → 1 ∈ w
rank_one w h x m =
    let (y, l, le, low) = least_from w 0 x m (omega arith) in
    Memᴰ.cast (omega (arith, h y l, below_zero w, below-flat w 0 y le low)) l

-- A first symbol may be replaced by one that has the rank it asks for, if the others do not notice.
pub rank_replace : (x y : ℕ) (b : List ℕ) → Rank (x ∷ b) → y ≡ suc (below b y) →
    ((v : ℕ) → v ∈ b → (x < v) ↔ (y < v)) → Rank (y ∷ b)
rank_replace x y b h e same v m = split_mem first rest m
  where
    first : v ≡ y → v ≡ suc (below (y ∷ b) v)
    first i = rw i (omega (arith, below_more y b y (omega arith)))

    rest : v ∈ b → v ≡ suc (below (y ∷ b) v)
    rest k = elim (dec_lt x v) [
      | yes lt ↦ omega (arith, h v (there k), below_less x b v lt, below_less y b v ((same v k).0 lt))
      | no ge ↦
          let ge' : ¬ (y < v) = λ lt. ge ((same v k).1 lt) in
          omega (arith, h v (there k), below_more x b v (omega arith), below_more y b v (omega arith))
    ]
