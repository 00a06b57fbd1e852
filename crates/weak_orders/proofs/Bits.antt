-- Sets of symbols as bits: bit v is set where v occurs, so the ones below bit k are the different symbols below k. Assumes nothing.
use mathlib.Core.List.Memᴰ
use mathlib.Core.List.{List, [], ◌∷◌, ◌++◌}
use mathlib.Core.Logic.{◌≢◌}
use mathlib.Core.Path.{◌≡◌, refl, sym, ap, ap₂, ◌∙◌}
use Prim.Native.Nat.{ℕ, zero, suc, ◌+◌, ◌*◌, ◌/◌, ◌%◌, ◌^◌, min, max, ◌<◌, ◌≤◌}
use native.Mathlib.Nat.{pow-suc, div-one, div-eq_of_lt, mul-div-mul_right, mod-lt, mod-one, one-mul, zero-div}
use native.Mathlib.Omega.{arith}
use native.Mathlib.Decide.{dec_lt, ℕ_discrete}
use lib.Arith.{bin_ind, digits_mod}
use lib.Bits.{bit_and, bit_or, and_step, or_step, or_shr, or_lt, or_add_and, or_zero_l, or_zero_r, and_le_l, and_le_r, and_zero_l, and_self, shifted_even}
use lib.Count.{ones, ones_cat, ones_step, ones-le}
use lib.Dec.{eqb, eqb-zero-suc, eqb-suc-zero, eqb-suc-suc, lit<}
use lib.Pow.{pow_pos, pow_mono, pow-lt, mod-pow-add}
use borrow.Author.Tests.{eq-eqb, ne_eqb}
use Rattle.weak_orders.specs.Window.{num, occurs, height, different, bound}
use Rattle.weak_orders.specs.Tables.{bit_of, bits_of}
use Rattle.weak_orders.proofs.Tests.{bit, bit≤1}
use Rattle.weak_orders.proofs.Symbols.{occurs_in, added_front, height_zero, height_suc, different-below}

abbrev digit : ℕ → ℕ → ℕ
digit b u = b / 2 ^ u % 2

-- the digits of a power of two
digit_pow : (x u : ℕ) → digit (2 ^ x) u ≡ bit (eqb u x)
digit_pow zero zero = refl
digit_pow zero (suc u) = rw (eqb-suc-zero, div-eq_of_lt {n = 1} {m = 2 ^ suc u} (pow-lt {i = 0} {j = suc u} (omega arith)))
digit_pow (suc x) zero = rw (eqb-zero-suc, div-one (2 ^ suc x), ← one-mul (2 ^ suc x)) (shifted_even 1 x)
digit_pow (suc x) (suc u) =
    rw (eqb-suc-suc, pow-suc 2 x, pow-suc 2 u, mul-div-mul_right {m = 2} (2 ^ x) (2 ^ u) (lit< tt)) (digit_pow x u)

-- the digits of a union
max_two : (a b : ℕ) → a < 2 → b < 2 → max a b < 2
max_two a b h k = omega arith

odd_or : (a b : ℕ) → bit_or a b % 2 ≡ max (a % 2) (b % 2)
odd_or a b = rw (or_step a b) (digits_mod (bit_or (a / 2) (b / 2)) (max_two (a % 2) (b % 2) (mod-lt a (lit< tt)) (mod-lt b (lit< tt))))

digit_or : (a b u : ℕ) → digit (bit_or a b) u ≡ max (digit a u) (digit b u)
digit_or a b u = rw (or_shr a b u) (odd_or (a / 2 ^ u) (b / 2 ^ u))

or_half : (a b : ℕ) → bit_or a b / 2 ≡ bit_or (a / 2) (b / 2)
or_half a b = or_shr a b 1

or_assoc : (a b c : ℕ) → bit_or (bit_or a b) c ≡ bit_or a (bit_or b c)
or_assoc = bin_ind (λ (n : ℕ). (b c : ℕ) → bit_or (bit_or n b) c ≡ bit_or n (bit_or b c)) (λ b c. refl) (λ n ih b c.
    let left = rw (or_half n b, odd_or n b) at (or_step (bit_or n b) c) in
    let right = rw (or_half b c, odd_or b c) at (or_step n (bit_or b c)) in
    omega (arith, left, right, ih (b / 2) (c / 2)))

-- one more symbol at the end
pub bits_back : (l : List ℕ) (x : ℕ) → bits_of (l ++ (x ∷ [])) ≡ bit_or (bits_of l) (bit_of x)
unfolding bits_of
bits_back [] x = or_zero_r (bit_of x) ∙ sym (or_zero_l (bit_of x))
bits_back (y ∷ l) x = ap (bit_or (bit_of y)) (bits_back l x) ∙ sym (or_assoc (bit_of y) (bits_of l) (bit_of x))

-- the digits of a symbol's bit, and of a set of symbols
digit_bit_of : (x u : ℕ) → u < 31 → digit (bit_of x) u ≡ bit (eqb u x)
unfolding bit_of
digit_bit_of x u h = elim (dec_lt x 31) [
  | yes l ↦ let e : min x 31 ≡ x = omega arith in rw e (digit_pow x u)
  | no l ↦
      let e : min x 31 ≡ 31 = omega arith in
      rw (e, digit_pow 31 u, ne_eqb u 31 (λ e. omega arith), ne_eqb u x (λ e. omega arith))
]

occurs_front : (x : ℕ) (l : List ℕ) (u : ℕ) → bit (occurs (x ∷ l) u) ≡ max (bit (eqb u x)) (bit (occurs l u))
occurs_front x l u = elim (ℕ_discrete u x) [
  | yes e ↦ rw (eq-eqb u x e, occurs_in {w = x ∷ l} {v = u} (Memᴰ.head e)) (let b = bit≤1 (occurs l u) in omega arith)
  | no ne ↦ rw (ne_eqb u x ne, (added_front l x).old u ne) (let b = bit≤1 (occurs l u) in omega arith)
]

pub digit_bits_of : (l : List ℕ) (u : ℕ) → u < 31 → bits_of l / 2 ^ u % 2 ≡ bit (occurs l u)
unfolding bits_of
digit_bits_of [] u h = rw (zero-div (2 ^ u)) (unfold occurs num in refl)
digit_bits_of (x ∷ l) u h = digit_or (bit_of x) (bits_of l) u ∙ ap₂ max (digit_bit_of x u h) (digit_bits_of l u h) ∙ sym (occurs_front x l u)

-- one more digit: one more where it is set
ones_digit : (d : ℕ) → d < 2 → ones d ≡ d
unfolding ones
ones_digit zero h = refl
ones_digit (suc zero) h = refl
ones_digit (suc (suc d)) h = absurd (omega arith)

ones_more : (b k : ℕ) → ones (b % 2 ^ suc k) ≡ ones (b % 2 ^ k) + b / 2 ^ k % 2
ones_more b k =
    let e : 1 + k ≡ suc k = omega arith in
    let split : b % 2 ^ suc k ≡ b / 2 ^ k % 2 * 2 ^ k + b % 2 ^ k = rw (← e) (mod-pow-add b 1 k) in
    omega (
      arith,
      ap ones split,
      ones_cat k (b / 2 ^ k % 2) (b % 2 ^ k) (mod-lt b (pow_pos k)),
      ones_digit (b / 2 ^ k % 2) (mod-lt (b / 2 ^ k) (lit< tt)),
    )

-- the ones below bit k are the different symbols below k
pub ones-height : (l : List ℕ) (k : ℕ) → k ≤ 31 → ones (bits_of l % 2 ^ k) ≡ height l k
ones-height l zero h = rw (mod-one (bits_of l), height_zero l) (ones_digit 0 (omega arith))
ones-height l (suc k) h = omega (
  arith,
  ones_more (bits_of l) k,
  digit_bits_of l k (omega arith),
  height_suc l k,
  ones-height l k (omega arith),
)

-- which are all of them where every symbol is below 31
pub different-ones : (l : List ℕ) → bound l ≤ 31 → height l 31 ≡ different l
different-ones l h = different-below l 31 h

-- ---- no gap among the bits

-- a union is at least each part
or_le : (a b : ℕ) → (a ≤ bit_or a b) × (b ≤ bit_or a b)
or_le a b = omega (arith, or_add_and a b, and_le_l a b, and_le_r a b)

-- the bits of symbols below k are those below bit k
pub bits_low : (l : List ℕ) (k : ℕ) → k ≤ 31 → bound l ≤ k → bits_of l < 2 ^ k
unfolding bound bits_of bit_of
bits_low [] k le h = pow_pos k
bits_low (x ∷ l) k le h = or_lt k (bit_of x) (bits_of l) (pow-lt (omega arith)) (bits_low l k le (omega arith))

pub low_bits : (l : List ℕ) (k : ℕ) → k ≤ 31 → bits_of l < 2 ^ k → bound l ≤ k
unfolding bound bits_of bit_of
low_bits [] k le h = omega arith
low_bits (x ∷ l) k le h =
    let (a, b) = or_le (bit_of x) (bits_of l) in
    let rest = low_bits l k le (omega arith) in
    elim (dec_lt x k) [
      | yes lt ↦ omega arith
      | no ge ↦ absurd (omega (arith, pow_mono {i = k} {j = min x 31} (omega arith)))
    ]

-- adding 1 to b clears b's bits just where they are all the bits below some one
module _ (b : ℕ) where
  odd : b % 2 ≡ 1 → (bit_and b (b + 1) ≡ bit_and (b / 2) (b / 2 + 1) * 2) × (ones b ≡ suc (ones (b / 2)))
  odd o =
      let e : (b + 1) / 2 ≡ b / 2 + 1 = omega arith in
      (rw (← e) (omega (arith, and_step b (b + 1))), omega (arith, ones_step b))

  even : b % 2 ≢ 1 → (b / 2 ≤ bit_and b (b + 1)) × (ones b ≡ ones (b / 2))
  even ne =
      let e : (b + 1) / 2 ≡ b / 2 = omega (arith, ne) in
      let s : bit_and (b / 2) ((b + 1) / 2) ≡ b / 2 = rw e (and_self (b / 2)) in
      (omega (arith, and_step b (b + 1)), omega (arith, ones_step b, ne))

pub cleared : (k b : ℕ) → b < 2 ^ k → bit_and b (b + 1) ≡ 0 → b < 2 ^ ones b
cleared zero b h z = omega (arith, pow_pos (ones b))
cleared (suc k) b h z = elim (ℕ_discrete (b % 2) 1) [
  | yes o ↦
      let (a, n) = odd b o in
      rw n (omega (arith, cleared k (b / 2) (omega (arith, pow-suc 2 k)) (omega arith), pow-suc 2 (ones (b / 2))))
  | no ne ↦ omega (arith, even b ne, ne, pow_pos (ones b))
]

pub full : (k b : ℕ) → b < 2 ^ k → ones b ≡ k → bit_and b (b + 1) ≡ 0
full zero b h e = let z : b ≡ 0 = omega arith in rw z (and_zero_l 1)
full (suc k) b h e =
    let h' : b / 2 < 2 ^ k = omega (arith, pow-suc 2 k) in
    elim (ℕ_discrete (b % 2) 1) [
      | yes o ↦ let (a, n) = odd b o in omega (arith, full k (b / 2) h' (omega arith))
      | no ne ↦ absurd (omega (arith, even b ne, ones-le k (b / 2) h'))
    ]
