-- Readers at an index of a slice: what they see there, one byte at a time. Assumes nothing.
use mathlib.Core.Bool.{true, false}
use mathlib.Core.List.{List, [], ◌∷◌}
use mathlib.Core.Path.{◌≡◌, refl, sym, ap}
use Prim.Native.Nat.{ℕ, zero, suc, ◌+◌, ◌-◌, ◌*◌, ◌^◌, ◌≤◌, ◌<◌}
use native.Mathlib.Nat.{pow-le-pow_right}
use native.Mathlib.Numerals.{add-one}
use native.Mathlib.Omega.{arith}
use Rattle.std.specs.List.{take_while}
use Rattle.std.proofs.lemmas.List.Sums.{take_while-cons}
use Rattle.std.specs.Prelude.{Option, Some, None}
use Rattle.std.specs.Option.{is_some, unwrap_or, option_map, option_eq}
use denote.Ref.{Bor}
use borrow.Author.Tests.{ltb-true, ltb-false}
use lib.Dec.{ltb, eqb}
use lib.ListN.{length, get_or, take, drop, length-take, length-drop, drop_of_length-le}
use lib.Seq.{drop-cons, take-suc, take_all, length-take-le}
use Rattle.weak_orders.specs.Says.{Says}
use Rattle.weak_orders.proofs.Tests.{says_no, by_test}
use lib.Pointwise.{pointwise}
use Rattle.frames.proofs.ByteTests.{pointwise_same_bytes, says_same_bytes}
use Rattle.decimals.specs.Reading.{begins_with, starts_with, is_digit, run, Digits, none, more, value}
use Rattle.decimals.proofs.Digits.{value_append, value-below}

-- ---- a text at the start

module _ (t s : List ℕ) where
  pub says_begins : Says (begins_with t s) (take (length t) s ≡ t)
  unfolding begins_with
  says_begins = says_same_bytes (take (length t) s) t

  pub pointwise_begins : pointwise eqb (take (length t) s) t ≡ begins_with t s
  unfolding begins_with
  pointwise_begins = pointwise_same_bytes (take (length t) s) t

  pub begins_long : begins_with t s ≡ true → length t ≤ length s
  begins_long e = omega (arith, ap length (says_begins.to e), length-take (length t) s)

  pub begins_short : length s < length t → begins_with t s ≡ false
  begins_short h = says_no says_begins (λ e. omega (arith, ap length e, length-take (length t) s))

-- ---- a byte at an index

pub starts_past : (b : ℕ) (s : List ℕ) (at : ℕ) → length s ≤ at → starts_with b (drop at s) ≡ false
unfolding starts_with
starts_past b s at h = rw (drop_of_length-le s h)

pub starts_at : (b : ℕ) (s : List ℕ) (at : ℕ) → at < length s → starts_with b (drop at s) ≡ eqb (get_or s at 0) b
unfolding starts_with
starts_at b s at h = rw (drop-cons s at 0 h)

-- the run of digits, as the digits from the front on
pub run_count : (s : List ℕ) → length (take_while is_digit s) ≡ run s
unfolding run
run_count [] = refl
run_count (b ∷ s) = rw take_while-cons (by_test (is_digit b) (λ e. rw e (ap suc (run_count s))) (λ e. rw e))

digits-take : (i : ℕ) {s : List ℕ} → Digits s → Digits (take i s)
digits-take zero d = none
digits-take (suc i) none = none
digits-take (suc i) (more l h d) = more l h (digits-take i d)

pub digit_at : (i : ℕ) {s : List ℕ} → Digits s → i < length s → (48 ≤ get_or s i 0) × (get_or s i 0 ≤ 57)
digit_at i none h = absurd (omega arith)
digit_at zero (more l u d) h = (l, u)
digit_at (suc i) (more l u d) h = digit_at i d (omega arith)

pub value-next : (s : List ℕ) (i : ℕ) → i < length s → value 0 (take (i + 1) s) ≡ value 0 (take i s) * 10 + (get_or s i 0 - 48)
unfolding value
value-next s i h = rw (add-one, take-suc s i 0 h, value_append)

-- another digit has room
pub value_room : (s : List ℕ) (i : ℕ) → Digits s → i < length s → length s ≤ 6 → value 0 (take i s) < 100000
value_room s i d h l =
    let size = length-take-le i s (omega arith) in
    let most : 10 ^ i ≤ 10 ^ 5 = pow-le-pow_right (omega arith) {i = i} {j = 5} (omega arith) in
    let b : value 0 (take i s) < 1 * 10 ^ i = rw size at (value-below 0 (digits-take i d)) in
    omega arith

-- the part of a slice from k on
pub part_from : (s : List ℕ) (k : ℕ) → take (length s - k) (drop k s) ≡ drop k s
part_from s k = take_all (length s - k) (drop k s) (omega (arith, length-drop k s))

-- the byte that is looked up
pub starts_looked : (s : List ℕ) (at : ℕ) (o : Option (Bor ℕ)) (t : Bor ℕ) → is_some o ≡ ltb at (length s) →
    unwrap_or (option_map (λ (x : Bor ℕ). x.now) o) 0 ≡ get_or s at 0 →
    option_eq (λ (x y : Bor ℕ). eqb x.now y.now) o (Some t) ≡ starts_with t.now (drop at s)
starts_looked s at None t h g = sym (starts_past t.now s at (ltb-false at (length s) (sym h)))
starts_looked s at (Some x) t h g = rw (starts_at t.now s at (ltb-true at (length s) (sym h)), g)
