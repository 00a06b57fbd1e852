-- How large a level can be, of any setting and any symbol, and that what passes test 9 has room in a setting. Assumes nothing.
use mathlib.Core.Bool.{Bool, true, false, cond}
use mathlib.Core.List.{List, [], ◌∷◌}
use mathlib.Core.Path.{◌≡◌, sym, ap, ◌∙◌}
use Prim.Native.Nat.{ℕ, zero, suc, ◌+◌, ◌*◌, ◌≤◌, ◌<◌, ◌^◌}
use native.Mathlib.Nat.{mul-le-mul}
use native.Mathlib.Omega.{arith}
use lib.Dec.{ltb, eqb}
use lib.IntN.{ℤ, pos, negsuc, neg_ℤ, nat_abs, sub_ℕ, ◌-ℤ◌}
use lib.ListN.{get_or}
use lib.Signed.{mag}
use mir.Facts.{to_z-of_z}
use mir.Syntax.{Width, w16}
use mir.Val.{Val, Fits, SFits, to_z, of_z}
use denote.Array.{each}
use denote.Builtin.{Array, i16}
use denote.Shadow.{shadow}
use denote.Signed.{SInt}
use borrow.Author.Tests.{leb-true}
use Rattle.weak_orders.proofs.Tests.{by_test, same_test, says_and, says_as, says_eq, says_itself, says_le}
use Rattle.levels.specs.declared.Setting.{Setting}
use Rattle.levels.specs.Level.{spacings, lowered, nearest, rounded, entry, on_table, level_at, level_of, top_ok, spacing_ok, even_ok, setting_ok}
use Rattle.levels.proofs.NearestMultiple.{nearest_le}

-- a difference is at most as large as its parts together
pick_mag : (t : Bool) (m n k : ℕ) → m ≤ k → n ≤ k → mag (cond t (negsuc m) (pos n)) ≤ k
pick_mag true m n k p q = p
pick_mag false m n k p q = q

sub_mag : (a b : ℕ) → mag (sub_ℕ a b) ≤ a + b
sub_mag a b = pick_mag (ltb a b) _ _ (a + b) (omega arith) (omega arith)

lower-mag : (x : ℤ) (n : ℕ) → mag (x -ℤ pos n) ≤ mag x + n + 1
lower-mag (pos a) zero = omega arith
lower-mag (pos a) (suc n) = omega (arith, sub_mag a (suc n))
lower-mag (negsuc a) zero = omega (arith, sub_mag zero (suc a))
lower-mag (negsuc a) (suc n) = omega arith

-- before rounding, in the widths that the fields have
pub drop_size : (d spacing : ℕ) → d < 256 → spacing < 65536 → d * spacing ≤ 255 * 65535
drop_size d spacing p q =
    let few : d ≤ 255 = omega arith in
    let narrow : spacing ≤ 65535 = omega arith in
    mul-le-mul few narrow

pub lowered_size : (s : Setting) (d : ℕ) → mag s.top ≤ 32768 → s.spacing < 65536 → d < 256 → mag (lowered s d) < 2 ^ 25
unfolding lowered
lowered_size s d t p h = omega (arith, lower-mag s.top (d * s.spacing), drop_size d s.spacing h p)

-- rounding adds at most 12
neg_mag : (m k : ℕ) → m ≤ suc k → mag (neg_ℤ (pos m)) ≤ k
neg_mag zero k h = omega arith
neg_mag (suc m) k h = omega arith

pub rounded-mag : (z : ℤ) → mag (rounded z) ≤ mag z + 12
unfolding rounded
rounded-mag (pos x) = nearest_le x
rounded-mag (negsuc x) = neg_mag (nearest (suc x)) (x + 12) (omega (arith, nearest_le (suc x)))

pub abs_mag : (z : ℤ) → nat_abs z ≤ mag z + 1
abs_mag (pos x) = omega arith
abs_mag (negsuc x) = omega arith

pub spacings_small : (rule symbol : ℕ) → symbol < 256 → spacings rule symbol < 256
unfolding spacings
spacings_small rule symbol h = by_test (eqb rule 1) (λ e. rw e (omega arith)) (λ e. rw e h)

-- so that a level has at most eight digits
pub level_size : (rule : ℕ) (s : Setting) (symbol : ℕ) → mag s.top ≤ 32768 → s.spacing < 65536 →
    ((d : ℕ) → mag (entry s.table d) ≤ 32768) → symbol < 256 → mag (level_of rule s symbol) < 100000000
unfolding level_of level_at
level_size rule s symbol t p entries v =
    let d = spacings rule symbol in
    by_test (on_table s)
    (λ e. rw e (omega (arith, entries d)))
    (λ e. rw e (omega (arith, rounded-mag (lowered s d), lowered_size s d t p (spacings_small rule symbol v))))

-- a top and a spacing that pass have room in 16 bits
pub top_fits : (top : ℤ) → top_ok top ≡ true → SFits w16 top
top_fits (pos k) e = record { sfits = omega (arith, leb-true k 2000 e) }
top_fits (negsuc k) e =
    let (l, _) = (says_and (says_le k 9999) (says_itself true)).to e in record { sfits = omega arith }

pub spacing_fits : (spacing : ℕ) → spacing_ok spacing ≡ true → Fits w16 spacing
spacing_fits spacing e =
    let (_, h) = (says_and (says_le 25 spacing) (says_le spacing 500)).to e in record { fits = omega arith }

-- a number of magnitude 0 is 0
abs_zero : (z : ℤ) → nat_abs z ≡ 0 → z ≡ pos 0
abs_zero (pos n) e = ap pos e
abs_zero (negsuc n) e = absurd (omega arith)

-- the top of a setting that passes test 9 has room in 16 bits, on a table too
pub setting_top_fits : (n : ℕ) (s : Setting) → setting_ok n s ≡ true → SFits w16 s.top
unfolding setting_ok on_table even_ok
setting_top_fits n s t = by_test (on_table s)
    (λ e.
    let (z, _) = (says_and (says_eq (nat_abs s.top) 0) (says_itself (eqb s.spacing 0))).to e in
    rw (abs_zero s.top z) (record { sfits = omega arith }))
    (λ e. top_fits s.top ((says_and (says_itself (top_ok s.top)) (says_itself _)).to (rw e at t)).0)

-- a number is 0 just if its bits are
pub zero_bits : (w : Width) → to_z w 0 ≡ pos 0 → (z : ℤ) → SFits w z → eqb (of_z w z) 0 ≡ eqb (nat_abs z) 0
zero_bits w none z f = same_test (says_eq (of_z w z) 0) (says_as (says_eq (nat_abs z) 0) (λ e. ap (of_z w) (abs_zero z e))
    (λ e. ap nat_abs (sym (to_z-of_z f) ∙ ap (to_z w) e ∙ none)))

-- An element of an array of i16 fits, at any index, since past the end `get_or` gives 0: for `search`, which has it of unsigned elements only.
each_fits : (t : List ℤ) (us : List Val) (i : ℕ) → shadow (each ℤ (SInt w16).own_val t us) → SFits w16 (get_or t i (pos 0))
each_fits [] us i p = record { sfits = omega arith }
each_fits (z ∷ t) [] i p = absurd p
each_fits (z ∷ t) (u ∷ us) zero p = record { sfits = p.0.1 }
each_fits (z ∷ t) (u ∷ us) (suc i) p = each_fits t us i p.1

pub entry_fits : (t : List ℤ) (vs : List Val) (i : ℕ) → shadow ((Array i16 tt 16).own_val t vs) → SFits w16 (get_or t i (pos 0))
entry_fits t vs i p = each_fits t p.0 i p.1.1
