-- Windows in height form. Assumes nothing.
use mathlib.Core.Bool.{true}
use mathlib.Core.List.Memᴰ
use mathlib.Core.List.{List}
use mathlib.Core.Path.{◌≡◌}
use Prim.Native.Nat.{ℕ, ◌≤◌, ◌<◌}
use native.Mathlib.Omega.{arith}
use native.Mathlib.Decide.{dec_lt}
use lib.ListN.{length}
use Rattle.weak_orders.specs.Says.{Says}
use Rattle.weak_orders.specs.Window.{different, is_height, bound}
use Rattle.weak_orders.proofs.Lists.{says_below}
use Rattle.weak_orders.proofs.Symbols.{says_occurs, occurs_in, in_occurs, height_full, full_height, bound_in, bound_find}
use Rattle.weak_orders.proofs.Symbols.{different-below, different≤length}
use Rattle.weak_orders.proofs.Tests.{◌∈◌, says_all}

-- with each symbol every smaller number is present
abbrev pub Height : List ℕ → Type 0
Height w = (x : ℕ) → x ∈ w → (y : ℕ) → y < x → y ∈ w

pub says_height : (w : List ℕ) → Says (is_height w) (Height w)
unfolding is_height
says_height w = says_all (λ x. says_below (says_occurs w) x) w

-- a window is in height form just where it holds as many different symbols as its largest allows
pub height_form : (w : List ℕ) → is_height w ≡ true → different w ≡ bound w
height_form w h =
    let full = height_full w (bound w) (λ u l.
    let (x, m, le) = bound_find w u l in
    elim (dec_lt u x) [ yes l' ↦ occurs_in ((says_height w).to h x m u l') | no l' ↦ occurs_in (Memᴰ.cast (omega arith) m) ]) in
    omega (arith, full, different-below w (bound w) (omega arith))

pub form_height : (w : List ℕ) → different w ≡ bound w → is_height w ≡ true
form_height w e = (says_height w).of (λ x m u l.
    in_occurs w u (full_height w (bound w) (omega (arith, different-below w (bound w) (omega arith))) u (omega (arith, bound_in m))))

-- so the symbols of a height window are below its length
pub height_bound : (w : List ℕ) → is_height w ≡ true → bound w ≤ length w
height_bound w h = omega (arith, height_form w h, different≤length w)

pub height-below : (w : List ℕ) → is_height w ≡ true → (x : ℕ) → x ∈ w → x < length w
height-below w h x m = omega (arith, height_bound w h, bound_in m)
