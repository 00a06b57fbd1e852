-- Decimals: what the writer writes, the reader's value gives back, and the other way round. Assumes nothing.
use mathlib.Core.Bool.{false}
use mathlib.Core.List.{List, [], ◌∷◌, ◌++◌, append_assoc, append-nil}
use mathlib.Core.Path.{◌≡◌, refl, sym, subst, ap, ◌∙◌}
use Prim.Native.Nat.{ℕ, zero, suc, ◌+◌, ◌-◌, ◌*◌, ◌/◌, ◌%◌, ◌≤◌, ◌<◌, ◌^◌}
use native.Mathlib.Nat.{mod-lt, div-add-mod', mul-add-div_right, mul-add-mod_self_right, div-eq_of_lt, mod-eq_of_lt, mul-le-mul_right}
use native.Mathlib.Nat.{mul_assoc, pow-succ'}
use native.Mathlib.Decide.{dec_lt}
use native.Mathlib.Omega.{arith}
use lib.Dec.{ltb}
use lib.ListN.{length, take, length-append}
use borrow.Author.Tests.{lt-ltb, le-ltb, ltb-true, ltb-false, ne_eqb}
use mathlib.Core.Logic.{◌⊎◌, ◌≢◌, ⊎_elim}
use Rattle.weak_orders.specs.Says.{Says}
use Rattle.weak_orders.proofs.Tests.{by_test, says_and, says_le}
use Rattle.decimals.specs.Text.{digits, decimal}
use Rattle.decimals.specs.Reading.{starts_with, is_digit, run, Digits, none, more, value}

-- ---- the digits of a number

pub tenth : (n : ℕ) → 10 ≤ n → (0 < n / 10) × (n / 10 < n)
tenth n h = omega (arith, div-add-mod' n 10, mod-lt n {m = 10} (omega arith))

-- the bound on the number of digits does not matter
digits_same : (j k n : ℕ) → n < j → n < k → digits j n ≡ digits k n
unfolding digits
digits_same zero k n hj hk = absurd (omega arith)
digits_same (suc j) zero n hj hk = absurd (omega arith)
digits_same (suc j) (suc k) n hj hk = by_test (ltb n 10)
    (λ e. rw e)
    (λ e.
    let less = tenth n (ltb-false n 10 e) in
    rw (e, digits_same j k (n / 10) (omega arith) (omega arith)))

pub decimal_small : (n : ℕ) → n < 10 → decimal n ≡ (48 + n) ∷ []
unfolding decimal digits
decimal_small n h = rw (lt-ltb n 10 h)

pub decimal_more : (n : ℕ) → 10 ≤ n → decimal n ≡ decimal (n / 10) ++ ((48 + n % 10) ∷ [])
unfolding decimal digits
decimal_more n h =
    let less = tenth n h in
    rw (le-ltb n 10 h, digits_same n (suc (n / 10)) (n / 10) (omega arith) (omega arith))

pub decimal-behind : (v d : ℕ) → 0 < v → d < 10 → decimal (v * 10 + d) ≡ decimal v ++ ((48 + d) ∷ [])
decimal-behind v d h l =
    let q : (v * 10 + d) / 10 ≡ v = mul-add-div_right (omega arith) v d ∙ (rw (div-eq_of_lt l) (omega arith)) in
    let r : (v * 10 + d) % 10 ≡ d = mul-add-mod_self_right v 10 d ∙ mod-eq_of_lt l in
    decimal_more (v * 10 + d) (omega arith) ∙ rw (q, r)

-- every number is below ten, or has digits before its last
pub by_tens : (P : ℕ → Type 0) → ((n : ℕ) → n < 10 → P n) → ((v d : ℕ) → 0 < v → d < 10 → P v → P (v * 10 + d)) → (n : ℕ) → P n
by_tens P low high n = go (suc n) n (omega arith)
  where
    go : (k n : ℕ) → n < k → P n
    go zero n h = absurd (omega arith)
    go (suc k) n h = by_test (ltb n 10)
        (λ e. low n (ltb-true n 10 e))
        (λ e.
        let less = tenth n (ltb-false n 10 e) in
        subst P (div-add-mod' n 10) (high (n / 10) (n % 10) (omega arith) (mod-lt n (omega arith)) (go k (n / 10) (omega arith))))

pub decimal-some : (n : ℕ) → 1 ≤ length (decimal n)
decimal-some = by_tens (λ n. 1 ≤ length (decimal n))
    (λ n l. rw (decimal_small n l) (omega arith))
    (λ v d h l i. rw (decimal-behind v d h l) (omega (arith, length-append (decimal v) ((48 + d) ∷ []))))

pub decimal_longer : (v : ℕ) → 10 ≤ v → length (decimal v) ≡ length (decimal (v / 10)) + 1
decimal_longer v h = rw (decimal_more v h) (length-append (decimal (v / 10)) ((48 + v % 10) ∷ []))

-- a number below ten to the k + 1 has at most k + 1 digits
pub decimal_width : (k n : ℕ) → n < 10 ^ suc k → length (decimal n) ≤ suc k
decimal_width zero n h = omega (arith, ap length (decimal_small n h))
decimal_width (suc k) n h = elim (dec_lt n 10) [
  | yes l ↦ omega (arith, ap length (decimal_small n l))
  | no l ↦
      let less : n / 10 < 10 ^ suc k = omega (arith, div-add-mod' n 10, rw pow-succ' at h) in
      omega (arith, decimal_longer n (omega arith), decimal_width k (n / 10) less)
]

-- ---- lists of digits

digits_append : {s t : List ℕ} → Digits s → Digits t → Digits (s ++ t)
digits_append none d = d
digits_append (more l h e) d = more l h (digits_append e d)

one : (d : ℕ) → d < 10 → Digits ((48 + d) ∷ [])
one d l = more {b = 48 + d} (omega arith) (omega arith) none

pub decimal-digits : (n : ℕ) → Digits (decimal n)
decimal-digits = by_tens (λ n. Digits (decimal n))
    (λ n l. rw (decimal_small n l) (one n l))
    (λ v d h l i. rw (decimal-behind v d h l) (digits_append i (one d l)))

pub says_digit : (b : ℕ) → Says (is_digit b) ((48 ≤ b) × (b ≤ 57))
says_digit b = says_and (says_le 48 b) (says_le b 57)

-- the run of digits goes through them, and on into what follows
pub run_through : {s : List ℕ} → Digits s → (r : List ℕ) → run (s ++ r) ≡ length s + run r
unfolding run
run_through none r = omega arith
run_through (more {b} {s} l h d) r = rw ((says_digit b).of (l, h)) (omega (arith, run_through d r))

pub run-digits : (s : List ℕ) → Digits (take (run s) s)
unfolding run
run-digits [] = none
run-digits (b ∷ s) = by_test (is_digit b)
    (λ e. let (l, h) = (says_digit b).to e in rw e (more l h (run-digits s)))
    (λ e. rw e none)

pub run_length : (s : List ℕ) → run s ≤ length s
unfolding run
run_length [] = omega arith
run_length (b ∷ s) = by_test (is_digit b) (λ e. rw e (omega (arith, run_length s))) (λ e. rw e (omega arith))

-- ---- their value

pub value_append : (v : ℕ) (s t : List ℕ) → value v (s ++ t) ≡ value (value v s) t
unfolding value
value_append v [] t = refl
value_append v (b ∷ s) t = value_append (v * 10 + (b - 48)) s t

pub decimal-value : (n : ℕ) → value 0 (decimal n) ≡ n
unfolding value
decimal-value = by_tens (λ n. value 0 (decimal n) ≡ n)
    (λ n l. rw (decimal_small n l) (omega arith))
    (λ v d h l i. rw (decimal-behind v d h l, value_append, i) (omega arith))

pub value-decimal : (v : ℕ) {s : List ℕ} → 0 < v → Digits s → decimal (value v s) ≡ decimal v ++ s
unfolding value
value-decimal v h none = sym (append-nil (decimal v))
value-decimal v h (more {b} {s} l u d) =
    let e : 48 + (b - 48) ≡ b = omega arith in
    value-decimal (v * 10 + (b - 48)) (omega arith) d
    ∙ rw (decimal-behind v (b - 48) h (omega arith), e, append_assoc)

-- below ten to the number of digits
pub value-below : (v : ℕ) {s : List ℕ} → Digits s → value v s < suc v * 10 ^ length s
unfolding value
value-below v none = omega arith
value-below v (more {b} {s} l u d) =
    let up : suc (v * 10 + (b - 48)) * 10 ^ length s ≤ suc v * 10 * 10 ^ length s = mul-le-mul_right (10 ^ length s) (omega arith) in
    rw (pow-succ', ← mul_assoc) (omega (arith, value-below (v * 10 + (b - 48)) d))

-- ---- a leading zero

-- only 0 starts with a zero
pub decimal-head : (n : ℕ) → 0 < n → (r : List ℕ) → starts_with 48 (decimal n ++ r) ≡ false
unfolding starts_with
decimal-head = by_tens (λ n. 0 < n → (r : List ℕ) → starts_with 48 (decimal n ++ r) ≡ false)
    (λ n l h r. rw (decimal_small n l) (ne_eqb (48 + n) 48 (λ e. omega arith)))
    (λ v d h l i h' r. rw (decimal-behind v d h l, append_assoc) (i h ((48 + d) ∷ r)))

-- digits that do not start with a zero, or one digit alone, are the decimal of their value
pub digits_decimal : (b : ℕ) (s : List ℕ) → Digits (b ∷ s) → (s ≡ []) ⊎ (b ≢ 48) → decimal (value 0 (b ∷ s)) ≡ b ∷ s
unfolding value
digits_decimal b s (more l u d) c =
    let e : 48 + (b - 48) ≡ b = omega arith in
    let front : 0 * 10 + (b - 48) ≡ b - 48 = omega arith in
    let alone : decimal (b - 48) ≡ b ∷ [] = decimal_small (b - 48) (omega arith) ∙ rw e in
    rw front (⊎_elim (λ n. rw n alone) (λ n. value-decimal (b - 48) (omega arith) d ∙ rw alone) c)
