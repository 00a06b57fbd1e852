-- The readers' answers, and what they tell of what was found. Assumes nothing.
use mathlib.Core.Bool.{true, false, ◌&&◌, false≢true}
use mathlib.Core.List.{List}
use mathlib.Core.Path.{◌≡◌, refl, sym, ap, ◌∙◌}
use Prim.Native.Nat.{ℕ, zero, suc, ◌+◌, ◌-◌, ◌*◌, ◌≤◌, ◌<◌, ◌^◌}
use native.Mathlib.Nat.{pow-le-pow_right}
use native.Mathlib.Decide.{dec_lt}
use native.Mathlib.Numerals.{add-one, sub-one}
use native.Mathlib.Omega.{arith}
use lib.Dec.{leb, ltb}
use lib.IntN.{negsuc}
use lib.ListN.{length, take, drop}
use borrow.Author.Tests.{lt-leb, le-leb}
use Rattle.weak_orders.proofs.Tests.{by_test}
use Rattle.decimals.specs.Text.{decimal}
use Rattle.decimals.specs.Reading.{Found, found, missing, Reader, further, next, both, begins_with, behind, starts_with, closed}
use Rattle.decimals.specs.Reading.{ended, run, value, well_written, number, negative, positive, signed_number}
use Rattle.std.specs.Prelude.{Some, None}
use Rattle.std.proofs.lemmas.Option.{none-some, same_Some}
use Rattle.decimals.specs.Held.{taken_as, taken}
use Rattle.decimals.specs.declared.Taken.{Taken}
use Rattle.decimals.proofs.Digits.{decimal-digits, decimal-value, value-below}
use Rattle.decimals.proofs.Readers.{takes_within, reads_number}
use Rattle.decimals.proofs.Cursors.{starts_past}

-- ---- from an answer to what was found

module _ {A B : Type 0} (f : A → B) where
  pub found_as : {t : Taken B} (r : Found A) → Some t ≡ taken_as f r → (x : A) × (r ≡ found x t.len) × (t.value ≡ f x)
  found_as {t} (found x k) e =
      let q = same_Some _ _ e in
      (x, ap (λ u. found x u) (sym (ap (λ (u : Taken B). u.len) q)), ap (λ (u : Taken B). u.value) q)
  found_as missing e = absurd (none-some _ (sym e))

  pub not_as : (r : Found A) → None ≡ taken_as f r → r ≡ missing
  not_as (found x k) e = absurd (none-some _ e)
  not_as missing e = refl

pub found_taken : {A : Type 0} {t : Taken A} (r : Found A) → Some t ≡ taken r → r ≡ found t.value t.len
found_taken {A} {t} r e = let (x, q, v) = found_as (λ (x : A). x) {t = t} r e in rw v q

-- ---- one decimal

module _ (s : List ℕ) where
  number-none : well_written (run s) s ≡ false → number s ≡ missing
  unfolding number
  number-none e = rw e

  pub none-run : run s ≡ 0 → number s ≡ missing
  unfolding well_written
  none-run e = number-none (rw e)

  pub long_run : 6 < run s → number s ≡ missing
  unfolding well_written
  long_run h = number-none (rw (lt-leb (run s) 6 h) (by_test (leb 1 (run s)) (λ e. rw e) (λ e. rw e)))

  -- more than one digit, of which the first is a zero
  pub zero_run : (ltb 1 (run s) && starts_with 48 s) ≡ true → number s ≡ missing
  unfolding well_written
  zero_run e = number-none (rw e (by_test (leb 1 (run s)) (λ a. rw a (by_test (leb (run s) 6) (λ b. rw b) (λ b. rw b))) (λ a. rw a)))

  pub good_run : 1 ≤ run s → run s ≤ 6 → (ltb 1 (run s) && starts_with 48 s) ≡ false → number s ≡ found (value 0 (take (run s) s)) (run s)
  unfolding number well_written
  good_run l h e = rw (le-leb 1 (run s) l, le-leb (run s) 6 h, e)

-- a decimal of at most six digits is below a million
pub short_below : (x : ℕ) → length (decimal x) ≤ 6 → x < 1000000
short_below x h =
    let most : 10 ^ length (decimal x) ≤ 10 ^ 6 = pow-le-pow_right (omega arith) {i = length (decimal x)} {j = 6} h in
    let b : x < 1 * 10 ^ length (decimal x) = rw decimal-value at (value-below 0 (decimal-digits x)) in
    omega arith

pub number_bounds : (s : List ℕ) {x k : ℕ} → number s ≡ found x k → (x < 1000000) × (k ≤ length s) × (k ≤ 6)
number_bounds s {x} {k} e = let (t, o) = reads_number.sound s x k e in (short_below x o, takes_within t, omega (arith, t.size))

-- ---- a decimal that may be below zero

pub negative_found : (v k : ℕ) → 0 < v → negative (found v k) ≡ found (negsuc (v - 1)) (k + 1)
unfolding negative
negative_found zero k h = absurd (omega arith)
negative_found (suc v) k h = rw (sub-one, add-one)

module _ (s : List ℕ) where
  pub signed_minus : starts_with 45 s ≡ true → signed_number s ≡ negative (number (drop 1 s))
  unfolding signed_number
  signed_minus e = rw e

  pub signed_plain : starts_with 45 s ≡ false → signed_number s ≡ positive (number s)
  unfolding signed_number
  signed_plain e = rw e

-- ---- one thing, and another right after it

module _ {A B : Type 0} (p : Reader A) (q : Reader B) (s : List ℕ) where
  pub both-none : p s ≡ missing → both p q s ≡ missing
  unfolding both next
  both-none e = rw e

  module _ {x : A} {a : ℕ} (e : p s ≡ found x a) where
    pub both_one : q (drop a s) ≡ missing → both p q s ≡ missing
    unfolding both next further
    both_one e' = rw (e, e')

    pub both_found : {y : B} {b : ℕ} → q (drop a s) ≡ found y b → both p q s ≡ found (x, y) (a + b)
    unfolding both next further
    both_found e' = rw (e, e')

-- ---- one thing behind a text

module _ {A B : Type 0} (t : List ℕ) (f : A → B) (p : Reader A) (s : List ℕ) where
  pub behind-other : begins_with t s ≡ false → behind t f p s ≡ missing
  unfolding behind
  behind-other e = rw e

  pub behind_here : begins_with t s ≡ true → behind t f p s ≡ further (length t) f (p (drop (length t) s))
  unfolding behind
  behind_here e = rw e

-- ---- a field, ended by a byte

-- what was read of r, which is the text s, and the byte behind it
module _ {A B : Type 0} (f : A → B) (p : Reader A) (b : ℕ) {r s : List ℕ} (here : r ≡ s) where
  pub field-missing : None ≡ taken_as f (p r) → ended p b s ≡ missing
  unfolding ended closed
  field-missing e = rw (← here, not_as f (p r) e)

  module _ {u : Taken B} (e : Some u ≡ taken_as f (p r)) where
    pub field-other : None ≡ taken (closed b (found u.value u.len) r) → ended p b s ≡ missing
    unfolding ended closed
    field-other n =
        let (x, q, _) = found_as f {t = u} (p r) e in
        rw (← here, q) (by_test (starts_with b (drop u.len r)) (λ t. absurd (none-some _ (rw t at n))) (λ t. rw t))

    pub field_found : {t : Taken B} → Some t ≡ taken (closed b (found u.value u.len) r) → (x : A) × (ended p b s ≡ found x t.len) × (t.value ≡ f x)
    unfolding ended closed
    field_found {t} n = let (x, q, v) = found_as f {t = u} (p r) e in go x t q v n
      where
        go : (x : A) (t : Taken B) → p r ≡ found x u.len → u.value ≡ f x → Some t ≡ taken (closed b (found u.value u.len) r) →
            (x : A) × (ended p b s ≡ found x t.len) × (t.value ≡ f x)
        go x t q v n = by_test (starts_with b (drop u.len r))
            (λ c.
            let m = same_Some _ _ (rw c at n) in
            let k : suc u.len ≡ t.len = sym (ap (λ (t : Taken B). t.len) m) in
            (x, rw (← here, q, c) (ap (found x) k), ap (λ (t : Taken B). t.value) m ∙ v))
            (λ c. absurd (none-some _ (sym (rw c at n))))

-- the same, where the code holds it as it is
pub field_taken : {A : Type 0} (p : Reader A) (b : ℕ) {r s : List ℕ} → r ≡ s → {u : Taken A} → Some u ≡ taken (p r) →
    {t : Taken A} → Some t ≡ taken (closed b (found u.value u.len) r) → ended p b s ≡ found t.value t.len
field_taken p b here {u} e {t} n = let (x, q, v) = field_found (λ x. x) p b here {u = u} e {t = t} n in rw v q

pub starts_within : (b : ℕ) (s : List ℕ) (k : ℕ) → starts_with b (drop k s) ≡ true → k < length s
starts_within b s k t = elim (dec_lt k (length s)) [
  | yes l ↦ l
  | no l ↦ absurd (false≢true (sym (starts_past b s k (omega arith)) ∙ t))
]
