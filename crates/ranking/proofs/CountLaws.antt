-- Laws of the numbers: `ways`, `ways_from`, L(n, k) and a(n). Assumes nothing.
use mathlib.Core.Path.{◌≡◌, refl, sym, ap}
use Prim.Native.Nat.{ℕ, zero, suc, pred, ◌+◌, ◌-◌, ◌*◌, ◌^◌, ◌≤◌, ◌<◌, zero-le, suc-le-suc}
use native.Mathlib.Nat.{pow-zero, pow-suc, add-zero, mul-zero, mul-le-mul_right}
use native.Mathlib.Decide.{dec_le, le_ind}
use native.Mathlib.Numerals.{add-one}
use native.Mathlib.Omega.{arith}
use Rattle.ranking.specs.Counts.{L, sum, a, ways, ways_from}
use Rattle.ranking.proofs.Sums.{sum_zero, sum_suc, sum_cong, sum_append}

-- one place more takes a missing height or a present one
pub ways_one_place : (r m p : ℕ) → ways (r + 1) m p ≡ m * ways r (m - 1) (p + 1) + p * ways r m p
unfolding ways
ways_one_place r m p = let (e₀, e₁, e₂) : (r + 1 ≡ suc r) × (m - 1 ≡ pred m) × (p + 1 ≡ suc p) = omega arith in rw (e₀, e₁, e₂)

-- with none missing each place takes a present one
pub ways-powers : (r p : ℕ) → ways r 0 p ≡ p ^ r
unfolding ways
ways-powers zero p = sym (pow-zero p)
ways-powers (suc r) p = omega (arith, ap (◌* p) (ways-powers r p), pow-suc p r)

-- one more height is allowed: it occurs, or it does not
pub ways_split : (r m p : ℕ) → ways r m (suc p) ≡ ways r (suc m) p + ways r m p
unfolding ways
ways_split zero zero p = refl
ways_split zero (suc m) p = refl
ways_split (suc r) zero p = omega (arith, ap (p *◌) (ways_split r zero p))
ways_split (suc r) (suc m) p = omega (arith, ap (p *◌) (ways_split r (suc m) p), ap (suc m *◌) (ways_split r m (suc p)))

pub ways_one_more : (r m p : ℕ) → ways r m (p + 1) ≡ ways r (m + 1) p + ways r m p
ways_one_more r m p = rw (add-one p, add-one m) (ways_split r m p)

pub L-ways : (n k : ℕ) → L n k ≡ ways n k 0
unfolding L ways
L-ways zero zero = refl
L-ways zero (suc k) = refl
L-ways (suc n) zero = omega arith
L-ways (suc n) (suc k) =
    let e : ways n k 1 ≡ L n (suc k) + L n k = omega (arith, ways_split n k 0, L-ways n (suc k), L-ways n k) in
    omega (arith, ap (suc k *◌) e)

-- no more different symbols than places
pub L-none : (n k : ℕ) → n < k → L n k ≡ 0
unfolding L
L-none n zero h = absurd (omega arith)
L-none zero (suc k) h = refl
L-none (suc n) (suc k) h = rw (L-none n (suc k) (omega arith), L-none n k (omega arith), mul-zero)

-- nor ways to place more than there is room for
pub ways-none : (r m p : ℕ) → r < m → ways r m p ≡ 0
unfolding ways
ways-none r zero p h = absurd (omega arith)
ways-none zero (suc m) p h = refl
ways-none (suc r) (suc m) p h = rw (ways-none r m (suc p) (omega arith), ways-none r (suc m) p (omega arith), mul-zero, mul-zero)

-- ---- m missing heights or more

pub ways_from-none : (r m p : ℕ) → r < m → ways_from r m p ≡ 0
unfolding ways_from
ways_from-none r m p h = let z : suc r - m ≡ 0 = omega arith in rw z

-- m of them, or more than m
pub ways_from-next : (r m p : ℕ) → ways_from r m p ≡ ways r m p + ways_from r (suc m) p
unfolding ways_from
ways_from-next r m p = elim (dec_le m r) [
  | yes l ↦
      let f : ℕ → ℕ = λ j. ways r (m + j) p in
      let e : suc r - m ≡ 1 + (suc r - suc m) = omega arith in
      omega (
        arith,
        ap (sum f) e,
        sum_append f 1 (suc r - suc m),
        sum_suc f 0,
        sum_zero f,
        ap (λ k. ways r k p) (add-zero m),
        sum_cong (λ j. f (1 + j)) (λ j. ways r (suc m + j) p) (suc r - suc m) (λ j l. ap (λ k. ways r k p) (omega arith)),
      )
  | no l ↦ omega (arith, ways-none r m p (omega arith), ways_from-none r m p (omega arith), ways_from-none r (suc m) p (omega arith))
]

-- a loop that adds them up from above, at m
pub ways_from_less : (r m p : ℕ) → 0 < m → ways_from r m p + ways r (m - 1) p ≡ ways_from r (m - 1) p
ways_from_less r m p h =
    let e : suc (m - 1) ≡ m = omega arith in
    omega (arith, ways_from-next r (m - 1) p, ap (λ m. ways_from r m p) e)

-- one more height is allowed
pub ways_from_split : (r m p : ℕ) → ways_from r m (suc p) ≡ ways_from r (suc m) p + ways_from r m p
ways_from_split r m p = from (suc r) m (omega arith)
  where
    from : (d m : ℕ) → suc r ≤ m + d → ways_from r m (suc p) ≡ ways_from r (suc m) p + ways_from r m p
    from zero m h = omega (
      arith,
      ways_from-none r m (suc p) (omega arith),
      ways_from-none r (suc m) p (omega arith),
      ways_from-none r m p (omega arith),
    )
    from (suc d) m h = omega (
      arith,
      ways_from-next r m (suc p),
      ways_split r m p,
      from d (suc m) (omega arith),
      ways_from-next r (suc m) p,
      ways_from-next r m p,
    )

-- ---- a grows
pub a_mono : (m n : ℕ) → m ≤ n → a m ≤ a n
unfolding a sum L
a_mono m n h = le_ind (λ n. a m ≤ a n) (omega arith) (λ n l i. omega (arith, next n)) n h
  where
    grow : (n k : ℕ) → L (suc n) k ≤ L (suc (suc n)) k
    grow n zero = omega arith
    grow n (suc k) = omega (arith, mul-le-mul_right (L (suc n) (suc k) + L (suc n) k) (suc-le-suc {n = 0} {m = k} zero-le))

    sums : (n k : ℕ) → sum (L (suc n)) k ≤ sum (L (suc (suc n))) k
    sums n zero = omega arith
    sums n (suc k) = omega (arith, grow n k, sums n k)

    next : (n : ℕ) → a n ≤ a (suc n)
    next zero = omega arith
    next (suc n) = omega (arith, sums n (suc (suc n)))
