-- The two conversions: ranks of any window are a rank window, heights a height window, and each undoes the other. Assumes nothing.
use mathlib.Core.Bool.{true, false}
use mathlib.Core.Logic.{◌≢◌}
use mathlib.Core.Path.{◌≡◌, sym, ◌∙◌}
use mathlib.Core.List.Memᴰ
use mathlib.Core.List.{List}
use Prim.Native.Nat.{ℕ, zero, suc, ◌<◌}
use native.Mathlib.Omega.{arith}
use native.Mathlib.Decide.{dec_le}
use lib.ListN.{length, length-map}
use Rattle.weak_orders.specs.Window.{occurs, below, height, is_rank, is_height, heights, ranks}
use Rattle.weak_orders.proofs.HeightForm.{says_height}
use Rattle.weak_orders.proofs.Lists.{map_cong, map-map, map_same}
use Rattle.weak_orders.proofs.RankForm.{says_rank}
use Rattle.weak_orders.proofs.Symbols.{occurs_in, in_occurs, below_zero, below_mono, below_strict, below-map, ltb-same, height_zero}
use Rattle.weak_orders.proofs.Symbols.{height-step, height_mono}
use Rattle.weak_orders.proofs.Symbols.{height_strict, height_past, height_find}
use Rattle.weak_orders.proofs.Tests.{◌∈◌, by_test}

-- ranks and heights keep the order of symbols, so also the number of smaller ones
pub below-ranks : (w : List ℕ) (x : ℕ) → below (ranks w) (suc (below w x)) ≡ below w x
unfolding ranks
below-ranks w x = below-map (λ y. suc (below w y)) w x (λ y m.
    ltb-same y x (suc (below w y)) (suc (below w x))
    (λ l. omega (arith, below_strict w y x (occurs_in m) l)) (λ l. omega (arith, below_mono w x y l)))

pub below-heights : (w : List ℕ) (x : ℕ) → below (heights w) (height w x) ≡ below w x
unfolding heights
below-heights w x = below-map (height w) w x (λ y m. ltb-same y x _ _ (height_strict w y x (occurs_in m)) (height_mono w x y))

-- the ranks of a window are in rank form, its heights in height form
pub ranks-is_rank : (w : List ℕ) → is_rank (ranks w) ≡ true
unfolding ranks
ranks-is_rank w = (says_rank (ranks w)).of (λ y m. let (x, i, e) = Memᴰ.of_map (λ x. suc (below w x)) w m in cc (below-ranks w x))

pub heights-is_height : (w : List ℕ) → is_height (heights w) ≡ true
unfolding heights
heights-is_height w = (says_height (heights w)).of (λ y m u l.
    let (x, i, e) = Memᴰ.of_map (height w) w m in
    let (z, l', o, e') = height_find w x u (omega arith) in
    Memᴰ.cast (sym e') (Memᴰ.map (height w) (in_occurs w z o)))

pub length-ranks : (w : List ℕ) → length (ranks w) ≡ length w
unfolding ranks
length-ranks w = length-map w (λ x. suc (below w x))

pub length-heights : (w : List ℕ) → length (heights w) ≡ length w
unfolding heights
length-heights w = length-map w (height w)

-- and the two undo each other
pub ranks-heights : (w : List ℕ) → is_rank w ≡ true → ranks (heights w) ≡ w
unfolding ranks heights
ranks-heights w h = map-map (λ y. suc (below (heights w) y)) (height w) w
    ∙ map_cong (λ x. suc (below (heights w) (height w x))) (λ x. x) w (λ x m. cc (below-heights w x, (says_rank w).to h x m))
    ∙ map_same w

not_rank : (w : List ℕ) (x : ℕ) → ((y : ℕ) → y ∈ w → x ≢ suc (below w y)) → occurs (ranks w) x ≡ false
unfolding ranks
not_rank w x h = by_test (occurs (ranks w) x)
    (λ o. let (y, i, e) = Memᴰ.of_map (λ x. suc (below w x)) w (in_occurs (ranks w) x o) in absurd (h y i (sym e)))
    (λ o. o)

-- where every number below v occurs, v is the height of its rank: no rank lies between those of v and of v + 1
height-ranks : (w : List ℕ) (v : ℕ) → ((u : ℕ) → u < v → occurs w u ≡ true) → height (ranks w) (suc (below w v)) ≡ v
unfolding ranks
height-ranks w zero h = omega (
  arith,
  height_zero (ranks w),
  below_zero w,
  height_past (ranks w) 0 (suc (below w 0)) (omega arith) (λ x a b. not_rank w x (λ y m. omega (arith, below_zero w))),
)
height-ranks w (suc v) h =
    let o = h v (omega arith) in
    let here = occurs_in (Memᴰ.map (λ x. suc (below w x)) (in_occurs w v o)) in
    let lt = below_strict w v (suc v) o (omega arith) in
    omega (
      arith,
      height-ranks w v (λ u l. h u (omega arith)),
      height-step (ranks w) (suc (below w v)) here,
      height_past (ranks w) (suc (suc (below w v))) (suc (below w (suc v))) (omega arith) (λ x a b. not_rank w x (λ y m. elim (dec_le y v) [
        | yes l ↦ omega (arith, below_mono w y v l)
        | no l ↦ omega (arith, below_mono w (suc v) y (omega arith))
      ])),
    )

pub heights-ranks : (w : List ℕ) → is_height w ≡ true → heights (ranks w) ≡ w
unfolding ranks heights
heights-ranks w h = map-map (height (ranks w)) (λ y. suc (below w y)) w
    ∙ map_cong (λ x. height (ranks w) (suc (below w x))) (λ x. x) w (λ x m. height-ranks w x (λ u l. occurs_in ((says_height w).to h x m u l)))
    ∙ map_same w
