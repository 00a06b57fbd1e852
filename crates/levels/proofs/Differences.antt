-- Integers as differences of two numbers, so that their order and their distances are those of numbers. Assumes nothing.
use mathlib.Core.Bool.{true, false, not, false≢true}
use mathlib.Core.Path.{◌≡◌, refl, sym, ap, ◌∙◌}
use Prim.Native.Nat.{ℕ, zero, suc, ◌+◌, ◌-◌, ◌≤◌, ◌<◌}
use native.Mathlib.Nat.{add-zero}
use native.Mathlib.Omega.{arith}
use native.Mathlib.Decide.{dec_lt}
use lib.IntN.{ℤ, pos, negsuc, neg_ℤ, nat_abs, sub_ℕ, ◌-ℤ◌, +ℤ_idr}
use lib.Signed.{le_z, lt_z}
use borrow.Author.Tests.{lt-ltb, le-ltb}
use Rattle.weak_orders.specs.Says.{Says}
use Rattle.weak_orders.proofs.Tests.{says_as, same_test, says_le, says_lt, says_not}

-- a difference is negative, or it is not
pub lt_difference : (p q : ℕ) → p < q → sub_ℕ p q ≡ negsuc (q - suc p)
lt_difference p q h = rw (lt-ltb p q h)

pub ge_difference : (p q : ℕ) → q ≤ p → sub_ℕ p q ≡ pos (p - q)
ge_difference p q h = rw (le-ltb p q h)

-- every integer is a difference
pub as_difference : (z : ℤ) → (p : ℕ) × (q : ℕ) × (z ≡ sub_ℕ p q)
as_difference (pos n) = (n, 0, rw (ge_difference n 0 (omega arith)) (ap pos (omega arith)))
as_difference (negsuc n) = (0, suc n, rw (lt_difference 0 (suc n) (omega arith)) (ap negsuc (omega arith)))

pub neg_difference : (m : ℕ) → neg_ℤ (pos m) ≡ sub_ℕ 0 m
neg_difference zero = refl
neg_difference (suc m) = let e : suc m - 1 ≡ m = omega arith in sym (lt_difference 0 (suc m) (omega arith) ∙ ap negsuc e)

-- differences of the same size are the same integer
pub same_difference : (a b c d : ℕ) → a + d ≡ c + b → sub_ℕ a b ≡ sub_ℕ c d
same_difference a b c d e = elim (dec_lt a b) [
  | yes l ↦ let e' : b - suc a ≡ d - suc c = omega arith in lt_difference a b l ∙ ap negsuc e' ∙ sym (lt_difference c d (omega arith))
  | no l ↦ let e' : a - b ≡ c - d = omega arith in ge_difference a b (omega arith) ∙ ap pos e' ∙ sym (ge_difference c d (omega arith))
]

-- a difference made smaller, and larger
pub lower_difference : (p q d : ℕ) → sub_ℕ p q -ℤ pos d ≡ sub_ℕ p (q + d)
lower_difference p q zero = +ℤ_idr (sub_ℕ p q) ∙ ap (sub_ℕ p) (sym (add-zero q))
lower_difference p q (suc d) = elim (dec_lt p q) [
  | yes l ↦
      let e : suc (q - suc p + d) ≡ q + suc d - suc p = omega arith in
      rw (lt_difference p q l, lt_difference p (q + suc d) (omega arith)) (ap negsuc e)
  | no l ↦ elim (dec_lt p (q + suc d)) [
    | yes m ↦
        let e : suc d - suc (p - q) ≡ q + suc d - suc p = omega arith in
        rw (ge_difference p q (omega arith), lt_difference p (q + suc d) m) (lt_difference (p - q) (suc d) (omega arith) ∙ ap negsuc e)
    | no m ↦
        let e : p - q - suc d ≡ p - (q + suc d) = omega arith in
        rw (ge_difference p q (omega arith), ge_difference p (q + suc d) (omega arith)) (ge_difference (p - q) (suc d) (omega arith) ∙ ap pos e)
  ]
]

raise_difference : (p q d : ℕ) → sub_ℕ p q -ℤ negsuc d ≡ sub_ℕ (p + suc d) q
raise_difference p q d = elim (dec_lt p q) [
  | yes l ↦ elim (dec_lt (p + suc d) q) [
    | yes m ↦
        let e : suc (q - suc p) - suc (suc d) ≡ q - suc (p + suc d) = omega arith in
        rw (lt_difference p q l, lt_difference (p + suc d) q m) (lt_difference (suc d) (suc (q - suc p)) (omega arith) ∙ ap negsuc e)
    | no m ↦
        let e : suc d - suc (q - suc p) ≡ p + suc d - q = omega arith in
        rw (lt_difference p q l, ge_difference (p + suc d) q (omega arith)) (ge_difference (suc d) (suc (q - suc p)) (omega arith) ∙ ap pos e)
  ]
  | no l ↦
      let e : p - q + suc d ≡ p + suc d - q = omega arith in
      rw (ge_difference p q (omega arith), ge_difference (p + suc d) q (omega arith)) (ap pos e)
]

pub subtract_difference : (p q c d : ℕ) → sub_ℕ p q -ℤ sub_ℕ c d ≡ sub_ℕ (p + d) (q + c)
subtract_difference p q c d = elim (dec_lt c d) [
  | yes l ↦
      rw (lt_difference c d l) (raise_difference p q (d - suc c)
      ∙ same_difference (p + suc (d - suc c)) q (p + d) (q + c) (omega arith))
  | no l ↦
      rw (ge_difference c d (omega arith)) (lower_difference p q (c - d)
      ∙ same_difference p (q + (c - d)) (p + d) (q + c) (omega arith))
]

-- how far from zero
pub abs_difference : (p q : ℕ) → nat_abs (sub_ℕ p q) ≡ (p - q) + (q - p)
abs_difference p q = elim (dec_lt p q) [
  | yes l ↦ ap nat_abs (lt_difference p q l) ∙ omega arith
  | no l ↦ ap nat_abs (ge_difference p q (omega arith)) ∙ omega arith
]

pub says_lt_difference : (p q p' q' : ℕ) → Says (lt_z (sub_ℕ p q) (sub_ℕ p' q')) (p + q' < p' + q)
says_lt_difference p q p' q' = elim (dec_lt p q) [
  | yes l ↦ elim (dec_lt p' q') [
    | yes l' ↦ rw (lt_difference p q l, lt_difference p' q' l') (says_as (says_lt (q' - suc p') (q - suc p)) (λ h. omega arith) (λ h. omega arith))
    | no l' ↦ rw (lt_difference p q l, ge_difference p' q' (omega arith)) (record { to = λ t. omega arith; of = λ h. refl })
  ]
  | no l ↦ elim (dec_lt p' q') [
    | yes l' ↦ rw (ge_difference p q (omega arith), lt_difference p' q' l')
        (record { to = λ t. absurd (false≢true t); of = λ h. absurd (omega arith) })
    | no l' ↦ rw (ge_difference p q (omega arith), ge_difference p' q' (omega arith))
        (says_as (says_lt (p - q) (p' - q')) (λ h. omega arith) (λ h. omega arith))
  ]
]

pub le_not_lt : (x y : ℤ) → le_z x y ≡ not (lt_z y x)
le_not_lt (pos a) (pos b) = same_test (says_le a b) (says_as (says_not (says_lt b a)) (λ h. omega arith) (λ h. λ l. omega arith))
le_not_lt (pos a) (negsuc b) = refl
le_not_lt (negsuc a) (pos b) = refl
le_not_lt (negsuc a) (negsuc b) = same_test (says_le b a) (says_as (says_not (says_lt a b)) (λ h. omega arith) (λ h. λ l. omega arith))

pub says_le_difference : (p q p' q' : ℕ) → Says (le_z (sub_ℕ p q) (sub_ℕ p' q')) (p + q' ≤ p' + q)
says_le_difference p q p' q' = rw (le_not_lt (sub_ℕ p q) (sub_ℕ p' q'))
    (says_as (says_not (says_lt_difference p' q' p q)) (λ h. omega arith) (λ h. λ l. omega arith))

pub pos_abs : (z : ℤ) → lt_z z (pos 0) ≡ false → z ≡ pos (nat_abs z)
pos_abs (pos n) e = refl
pos_abs (negsuc n) e = absurd (let l : ◌≡◌ {A = ℕ} 0 1 = cc in omega arith)
