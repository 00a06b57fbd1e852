-- Levels under a setting that passes test 9: they lie in range, and fall as d grows. Assumes nothing.
use mathlib.Core.Bool.{true, false, false≢true}
use mathlib.Core.Path.{◌≡◌, sym, ◌∙◌}
use Prim.Native.Nat.{ℕ, suc, ◌+◌, ◌-◌, ◌*◌, ◌≤◌, ◌<◌}
use native.Mathlib.Nat.{mul-le-mul_right, suc-mul}
use native.Mathlib.Omega.{arith}
use lib.IntN.{ℤ, pos, negsuc, nat_abs, sub_ℕ}
use lib.Signed.{le_z, lt_z}
use borrow.Author.Tests.{le-ltb}
use Rattle.weak_orders.proofs.Lists.{get_or_in, all_in}
use Rattle.weak_orders.proofs.Tests.{by_test, says_and, says_eq, says_itself, says_le}
use Rattle.levels.specs.declared.Setting.{Setting}
use Rattle.levels.specs.Table.{is_multiple, level_allowed, table_ok}
use Rattle.levels.specs.Level.{setting_of, lowered, rounded, entry, on_table, level_at, top_ok, even_ok, setting_ok}
use Rattle.levels.proofs.Differences.{as_difference, lower_difference, says_le_difference}
use Rattle.levels.proofs.NearestMultiple.{rounding, rounded-falls, rounded_low, rounded_high}
use Rattle.levels.proofs.Tables.{says_allowed, says_table, entries_fall}

-- What is known of the levels for d below n.
pub record Ordered (n : ℕ) (level : ℕ → ℤ) : Type 0 where
  pub low : (d : ℕ) → d < n → le_z (negsuc 11999) (level d) ≡ true
  pub high : (d : ℕ) → d < n → le_z (level d) (pos 2000) ≡ true
  pub multiple : (d : ℕ) → d < n → is_multiple (level d) ≡ true
  pub falling : (d e : ℕ) → d < e → e < n → lt_z (level e) (level d) ≡ true

-- no integer is below itself
lt_self : (z : ℤ) → lt_z z z ≡ false
lt_self (pos n) = le-ltb n n (omega arith)
lt_self (negsuc n) = le-ltb n n (omega arith)

-- so each has a level of its own
pub level_same : {n : ℕ} {level : ℕ → ℤ} → Ordered n level → (d e : ℕ) → d < n → e < n → level d ≡ level e → d ≡ e
level_same {n} {level} o d e ld le same =
    let apart : (x y : ℕ) → x < n → y < n → level x ≡ level y → ¬ (x < y) =
    λ x y lx ly q lt. false≢true (sym (lt_self (level y)) ∙ (rw q at (o.falling x y lt ly))) in
    let low = apart d e ld le same in
    let high = apart e d le ld (sym same) in
    omega arith

-- ---- even spacing

-- A setting that passes, in numbers: its top is p - q.
record Passed (n : ℕ) (s : Setting) : Type 0 where
  p : ℕ
  q : ℕ
  top : s.top ≡ sub_ℕ p q
  upper : p ≤ q + 2000
  spaced : 25 ≤ s.spacing
  lowest : q + (n - 1) * s.spacing ≤ p + 12000

passed : (n : ℕ) (s : Setting) → even_ok n s ≡ true → Passed n s
unfolding even_ok lowered
passed n s t =
    let (p, q, e) = as_difference s.top in
    let bottom = lowered s (n - 1) in
    let tests = says_and (says_and (says_itself (le_z (negsuc 9999) s.top)) (says_itself (le_z s.top (pos 2000))))
    (says_and (says_and (says_le 25 s.spacing) (says_le s.spacing 500)) (says_itself (le_z (negsuc 11999) bottom))) in
    let ((l, u), ((spaced, m), b)) = tests.to t in
    let upper = (says_le_difference p q 2000 0).to (rw e at u) in
    let lowest = (says_le_difference 0 12000 p (q + (n - 1) * s.spacing)).to (rw (e, lower_difference) at b) in
    record { p = p; q = q; top = e; upper = omega arith; spaced = spaced; lowest = omega arith }

module _ {n : ℕ} {s : Setting} (h : Passed n s) where
  lowered_difference : (d : ℕ) → lowered s d ≡ sub_ℕ h.p (h.q + d * s.spacing)
  unfolding lowered
  lowered_difference d = rw (h.top, lower_difference h.p h.q (d * s.spacing))

  deep : (d : ℕ) → d < n → d * s.spacing ≤ (n - 1) * s.spacing
  deep d lt = let le : d ≤ n - 1 = omega arith in mul-le-mul_right s.spacing le

  even_ordered : Ordered n (λ d. rounded (lowered s d))
  even_ordered = record {
    low = λ d lt. rw (lowered_difference d) (rounded_low h.p (h.q + d * s.spacing) (omega (arith, h.lowest, deep d lt)));
    high = λ d lt. rw (lowered_difference d) (rounded_high h.p (h.q + d * s.spacing) (omega (arith, h.upper)));
    multiple = λ d lt. (rounding (lowered s d)).multiple;
    falling = λ d e lt le.
        let next : suc d ≤ e = omega arith in
        let more : suc d * s.spacing ≤ e * s.spacing = mul-le-mul_right s.spacing next in
        rw (lowered_difference d, lowered_difference e)
        (rounded-falls h.p (h.q + e * s.spacing) h.p (h.q + d * s.spacing) (omega (arith, h.spaced, suc-mul d s.spacing)));
  }

-- ---- a table

module _ (n : ℕ) (s : Setting) (few : n ≤ 16) (ok : table_ok s.table ≡ true) where
  table-ordered : Ordered n (entry s.table)
  table-ordered =
      let (long, (allowed, falls)) = (says_table s.table).to ok in
      let each : (d : ℕ) → d < n → level_allowed (entry s.table d) ≡ true = λ d lt. all_in level_allowed allowed (get_or_in s.table d (pos 0) (omega arith)) in
      record {
        low = λ d lt. ((says_allowed (entry s.table d)).to (each d lt)).0;
        high = λ d lt. ((says_allowed (entry s.table d)).to (each d lt)).1.0;
        multiple = λ d lt. ((says_allowed (entry s.table d)).to (each d lt)).1.1;
        falling = λ d e lt le. entries_fall s.table falls d e lt (omega arith);
      }

-- ---- both

same-levels : {n : ℕ} {f g : ℕ → ℤ} → ((d : ℕ) → f d ≡ g d) → Ordered n g → Ordered n f
same-levels e o = record {
  low = λ d lt. rw (e d) (o.low d lt);
  high = λ d lt. rw (e d) (o.high d lt);
  multiple = λ d lt. rw (e d) (o.multiple d lt);
  falling = λ d x lt lx. rw (e d, e x) (o.falling d x lt lx);
}

-- A table has entries for at most sixteen symbols.
pub ordered : (n : ℕ) (s : Setting) → n ≤ 16 → setting_ok n s ≡ true → Ordered n (level_at s)
unfolding setting_ok level_at
ordered n s few ok = by_test (on_table s)
    (λ t. same-levels (λ d. rw t) (table-ordered n s few (rw t at ok)))
    (λ t. same-levels (λ d. rw t) (even_ordered (passed n s (rw t at ok))))

-- Without a table test 9 is that of even spacing: a spacing of 0 fails it.
pub no_table : (n : ℕ) (top : ℤ) (spacing : ℕ) → setting_ok n (setting_of top spacing) ≡ even_ok n (setting_of top spacing)
unfolding setting_ok on_table table_ok even_ok
no_table n top spacing = by_test (on_table (setting_of top spacing))
    (λ t.
    let (_, none) = (says_and (says_eq (nat_abs top) 0) (says_eq spacing 0)).to t in
    rw t (rw none (by_test (top_ok top) (λ e. rw e) (λ e. rw e))))
    (λ t. rw t)
