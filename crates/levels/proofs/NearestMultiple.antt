-- Rounding to the nearest multiple of 25, in differences of numbers. Assumes nothing.
use mathlib.Core.Bool.{true, false}
use mathlib.Core.Logic.{◌⊎◌, inl, inr, ⊎_elim, ◌≢◌}
use mathlib.Core.Path.{◌≡◌, refl, sym, ap, ap₂, ◌∙◌}
use Prim.Native.Nat.{ℕ, suc, ◌+◌, ◌-◌, ◌*◌, ◌/◌, ◌%◌, ◌≤◌, ◌<◌}
use native.Mathlib.Nat.{zero-add, div-add-mod', mod-lt, mul-mod_left}
use native.Mathlib.Omega.{arith}
use native.Mathlib.Decide.{dec_lt}
use lib.IntN.{ℤ, pos, negsuc, neg_ℤ, nat_abs, sub_ℕ, ◌-ℤ◌}
use lib.Signed.{le_z, lt_z}
use borrow.Author.Tests.{ltb-true, eqb-true, eq-eqb}
use Rattle.levels.specs.Level.{nearest, rounded}
use Rattle.levels.specs.Table.{is_multiple}
use Rattle.levels.specs.Rounding.{Rounding}
use Rattle.levels.proofs.Differences.{lt_difference, ge_difference, as_difference, neg_difference, same_difference, lower_difference}
use Rattle.levels.proofs.Differences.{subtract_difference, abs_difference, pos_abs, says_lt_difference, says_le_difference}

-- a number lies within 12 of its nearest multiple
pub le_nearest : (x : ℕ) → x ≤ nearest x + 12
unfolding nearest
le_nearest x = omega (arith, div-add-mod' (x + 12) 25, mod-lt (x + 12) {m = 25} (omega arith))

pub nearest_le : (x : ℕ) → nearest x ≤ x + 12
unfolding nearest
nearest_le x = omega (arith, div-add-mod' (x + 12) 25)

-- a negative number is rounded as what it is below zero, any other as itself
pub rounded-negative : (z : ℤ) → lt_z z (pos 0) ≡ true → pos 0 -ℤ pos (nearest (nat_abs z)) ≡ rounded z
unfolding rounded
rounded-negative (pos x) e = absurd (let l : x < 0 = ltb-true x 0 e in omega arith)
rounded-negative (negsuc x) e =
    let m = nearest (suc x) in
    lower_difference 0 0 m ∙ ap (sub_ℕ 0) (zero-add m) ∙ sym (neg_difference m)

pub rounded-positive : (z : ℤ) → lt_z z (pos 0) ≡ false → pos (nearest (nat_abs z)) ≡ rounded z
unfolding rounded
rounded-positive z e = sym (ap rounded (pos_abs z e))

-- The nearest multiple of the difference p - q is 25 (c - d), one of c and d being zero.
record Near (p q : ℕ) : Type 0 where
  c : ℕ
  d : ℕ
  one_side : (c ≡ 0) ⊎ (d ≡ 0)
  is : rounded (sub_ℕ p q) ≡ sub_ℕ (c * 25) (d * 25)
  up : p + d * 25 ≤ q + c * 25 + 12
  down : q + c * 25 ≤ p + d * 25 + 12

near : (p q : ℕ) → Near p q
unfolding rounded nearest
near p q = elim (dec_lt p q) [
  | yes h ↦
      let x = suc (q - suc p) in
      record {
        c = 0;
        d = (x + 12) / 25;
        one_side = inl refl;
        is = ap rounded (lt_difference p q h) ∙ neg_difference (nearest x);
        up = omega (arith, nearest_le x);
        down = omega (arith, le_nearest x);
      }
  | no h ↦
      let x = p - q in
      let e : nearest x ≡ nearest x - 0 = omega arith in
      record {
        c = (x + 12) / 25;
        d = 0;
        one_side = inr refl;
        is = ap rounded (ge_difference p q (omega arith)) ∙ ap pos e ∙ sym (ge_difference (nearest x) 0 (omega arith));
        up = omega (arith, le_nearest x);
        down = omega (arith, nearest_le x);
      }
]

-- a multiple of 25 is a difference of two
multiple_as : (m : ℤ) → is_multiple m ≡ true → (a : ℕ) × (b : ℕ) × (m ≡ sub_ℕ (a * 25) (b * 25))
multiple_as (pos n) t =
    let k = n / 25 in
    let e : n ≡ k * 25 - 0 = omega (arith, div-add-mod' n 25, eqb-true (n % 25) 0 t) in
    (k, 0, ap pos e ∙ sym (ge_difference (k * 25) 0 (omega arith)))
multiple_as (negsuc n) t =
    let k = suc n / 25 in
    let e : suc n ≡ k * 25 = omega (arith, div-add-mod' (suc n) 25, eqb-true (suc n % 25) 0 t) in
    (0, k, ap (λ x. neg_ℤ (pos x)) e ∙ neg_difference (k * 25))

-- and such a difference is a multiple, where one of the two is zero
multiple_difference : (c d : ℕ) → (c ≡ 0) ⊎ (d ≡ 0) → is_multiple (sub_ℕ (c * 25) (d * 25)) ≡ true
multiple_difference c d h =
    let size : (k : ℕ) → nat_abs (sub_ℕ (c * 25) (d * 25)) ≡ k * 25 → is_multiple (sub_ℕ (c * 25) (d * 25)) ≡ true =
    λ k e. eq-eqb _ 0 (ap (λ x. x % 25) e ∙ mul-mod_left k 25) in
    ⊎_elim
    (λ z. size d (abs_difference (c * 25) (d * 25) ∙ omega arith))
    (λ z. size c (abs_difference (c * 25) (d * 25) ∙ omega arith))
    h

-- how far two differences are apart
distance : (z m : ℤ) (p q c d : ℕ) → z ≡ sub_ℕ p q → m ≡ sub_ℕ c d → nat_abs (z -ℤ m) ≡ (p + d - (q + c)) + (q + c - (p + d))
distance z m p q c d e e' = ap nat_abs (ap₂ ◌-ℤ◌ e e' ∙ subtract_difference p q c d) ∙ abs_difference (p + d) (q + c)

-- 12 is less than half of 25
nearer_than : (p q c d a b : ℕ) → p + d * 25 ≤ q + c * 25 + 12 → q + c * 25 ≤ p + d * 25 + 12 → a + d ≢ c + b →
    (p + d * 25 - (q + c * 25)) + (q + c * 25 - (p + d * 25)) < (p + b * 25 - (q + a * 25)) + (q + a * 25 - (p + b * 25))
nearer_than p q c d a b up down ne = elim (dec_lt (a + d) (c + b)) [
  | yes l ↦ omega arith
  | no l ↦ omega arith
]

pub rounding : Rounding
rounding z =
    let (p, q, e) = as_difference z in
    let N = near p q in
    let c = N.c in
    let d = N.d in
    let at : rounded z ≡ sub_ℕ (c * 25) (d * 25) = ap rounded e ∙ N.is in
    let mine = distance z (rounded z) p q (c * 25) (d * 25) e at in
    record {
      multiple = ap is_multiple at ∙ multiple_difference c d N.one_side;
      near = omega (arith, mine, N.up, N.down);
      nearer = λ m t ne.
          let (a, b, s) = multiple_as m t in
          let other : a + d ≢ c + b = λ h.
          ne (s ∙ same_difference (a * 25) (b * 25) (c * 25) (d * 25) (omega arith) ∙ sym at) in
          let theirs = distance z m p q (a * 25) (b * 25) e s in
          omega (arith, mine, theirs, nearer_than p q c d a b N.up N.down other);
    }

-- differences that are 25 or more apart keep their order: 12 + 12 is less than 25
pub rounded-falls : (p q p' q' : ℕ) → p + q' + 25 ≤ p' + q → lt_z (rounded (sub_ℕ p q)) (rounded (sub_ℕ p' q')) ≡ true
rounded-falls p q p' q' h =
    let N = near p q in
    let N' = near p' q' in
    rw (N.is, N'.is)
    ((says_lt_difference (N.c * 25) (N.d * 25) (N'.c * 25) (N'.d * 25)).of (omega (arith, N.down, N'.up)))

-- -12000 and 2000 are multiples of 25, so that bounds stay bounds
pub rounded_low : (p q : ℕ) → q ≤ p + 12000 → le_z (negsuc 11999) (rounded (sub_ℕ p q)) ≡ true
rounded_low p q h = let N = near p q in rw N.is ((says_le_difference 0 12000 (N.c * 25) (N.d * 25)).of (omega (arith, N.up)))

pub rounded_high : (p q : ℕ) → p ≤ q + 2000 → le_z (rounded (sub_ℕ p q)) (pos 2000) ≡ true
rounded_high p q h = let N = near p q in rw N.is ((says_le_difference (N.c * 25) (N.d * 25) 2000 0).of (omega (arith, N.down)))
