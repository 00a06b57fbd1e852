-- Level tables: their tests entry by entry, and that a table which passes falls from any entry to any later one. Assumes nothing.
use mathlib.Core.Bool.{Bool, true, false, false≢true}
use mathlib.Core.List.{List, [], ◌∷◌}
use mathlib.Core.Path.{◌≡◌, refl, sym, ◌∙◌}
use Prim.Native.Nat.{ℕ, zero, suc, ◌+◌, ◌%◌, ◌≤◌, ◌<◌}
use native.Mathlib.Numerals.{add-one, unary_clauses}
use native.Mathlib.Omega.{arith}
use lib.IntN.{ℤ, pos, negsuc, nat_abs, neg_ℤ}
use lib.ListN.{length, get_or}
use lib.Signed.{le_z, lt_z, rem_z}
use mir.Syntax.{w16}
use mir.Val.{SFits}
use borrow.Author.Tests.{leb-true}
use Rattle.std.specs.List.{IsAllAdjacentAnswer}
use Rattle.weak_orders.specs.Says.{Says}
use Rattle.weak_orders.specs.Window.{all}
use Rattle.weak_orders.proofs.Tests.{by_test, says_and, says_as, says_eq, says_itself}
use Rattle.levels.specs.Table.{is_multiple, level_allowed, falls_from, falls, table_ok}
use Rattle.levels.proofs.Differences.{as_difference, says_lt_difference}

lt_trans : (x y z : ℤ) → lt_z x y ≡ true → lt_z y z ≡ true → lt_z x z ≡ true
lt_trans x y z l m =
    let (p, q, e) = as_difference x in
    let (p', q', e') = as_difference y in
    let (p'', q'', e'') = as_difference z in
    let low = (says_lt_difference p q p' q').to (rw (e, e') at l) in
    let high = (says_lt_difference p' q' p'' q'').to (rw (e', e'') at m) in
    rw (e, e'') ((says_lt_difference p q p'' q'').of (omega arith))

-- ---- what a table that passes says

below_first : (x : ℤ) (t : List ℤ) → falls_from x t ≡ true → (j : ℕ) → j < length t → lt_z (get_or t j (pos 0)) x ≡ true
unfolding falls_from
below_first x [] f j h = absurd (omega arith)
below_first x (y ∷ t) f zero h = ((says_and (says_itself (lt_z y x)) (says_itself (falls_from y t))).to f).0
below_first x (y ∷ t) f (suc j) h =
    let (l, g) = (says_and (says_itself (lt_z y x)) (says_itself (falls_from y t))).to f in
    lt_trans (get_or t j (pos 0)) y x (below_first y t g j (omega arith)) l

falls-tail : (x : ℤ) (t : List ℤ) → falls_from x t ≡ true → falls t ≡ true
unfolding falls falls_from
falls-tail x [] f = refl
falls-tail x (y ∷ t) f = ((says_and (says_itself (lt_z y x)) (says_itself (falls_from y t))).to f).1

-- of any two entries the later one is lower
pub entries_fall : (t : List ℤ) → falls t ≡ true → (i j : ℕ) → i < j → j < length t → lt_z (get_or t j (pos 0)) (get_or t i (pos 0)) ≡ true
unfolding falls
entries_fall [] f i j l h = absurd (omega arith)
entries_fall (x ∷ t) f i zero l h = absurd (omega arith)
entries_fall (x ∷ t) f zero (suc j) l h = below_first x t f j (omega arith)
entries_fall (x ∷ t) f (suc i) (suc j) l h = entries_fall t (falls-tail x t f) i j (omega arith) (omega arith)

-- ---- the order, by each entry and the next

falls_of : (t : List ℤ) → ((k : ℕ) → k + 1 < length t → lt_z (get_or t (k + 1) (pos 0)) (get_or t k (pos 0)) ≡ true) → falls t ≡ true
unfolding falls falls_from
falls_of [] h = refl
falls_of (x ∷ []) h = refl
falls_of (x ∷ y ∷ t) h =
    (says_and (says_itself (lt_z y x)) (says_itself (falls (y ∷ t)))).of (h 0 (omega arith), falls_of (y ∷ t) (λ k l. rw add-one (simp unary_clauses at (h (suc k) (omega arith)))))

pub falls_sorted : (t : List ℤ) (r : Bool) → IsAllAdjacentAnswer (λ x y b. b ≡ lt_z y x) t r → r ≡ falls t
falls_sorted t true h = sym (falls_of t (λ k l. sym (h k (pos 0) l)))
falls_sorted t false (k, l, e) = by_test (falls t)
    (λ f. absurd (false≢true (e (pos 0) ∙ entries_fall t f k (k + 1) (omega arith) l)))
    (λ f. sym f)

-- ---- a table as a whole

pub says_allowed : (z : ℤ) → Says (level_allowed z) ((le_z (negsuc 11999) z ≡ true) × ((le_z z (pos 2000) ≡ true) × (is_multiple z ≡ true)))
unfolding level_allowed
says_allowed z = says_as
    (says_and (says_and (says_itself (le_z (negsuc 11999) z)) (says_itself (le_z z (pos 2000)))) (says_itself (is_multiple z)))
    (λ ((low, high), multiple). (low, (high, multiple)))
    (λ (low, (high, multiple)). ((low, high), multiple))

pub says_table : (t : List ℤ) → Says (table_ok t) ((length t ≡ 16) × ((all level_allowed t ≡ true) × (falls t ≡ true)))
unfolding table_ok
says_table t = says_and (says_eq (length t) 16) (says_and (says_itself (all level_allowed t)) (says_itself (falls t)))

-- such a level lies within 12000 of zero, and so has room in a table
pub allowed_size : (z : ℤ) → level_allowed z ≡ true → nat_abs z ≤ 12000
allowed_size (pos n) e = omega (arith, leb-true n 2000 ((says_allowed (pos n)).to e).1.0)
allowed_size (negsuc k) e = omega (arith, leb-true k 11999 ((says_allowed (negsuc k)).to e).0)

pub allowed_fits : (z : ℤ) → level_allowed z ≡ true → SFits w16 z
allowed_fits (pos n) e = record { sfits = omega (arith, allowed_size (pos n) e) }
allowed_fits (negsuc k) e = record { sfits = omega (arith, allowed_size (negsuc k) e) }

-- ---- one level

abs_neg : (m : ℕ) → nat_abs (neg_ℤ (pos m)) ≡ m
abs_neg zero = refl
abs_neg (suc k) = refl

-- the remainder has the sign of what is divided
pub abs_rem : (z : ℤ) (m : ℕ) → nat_abs (rem_z z (pos m)) ≡ nat_abs z % m
abs_rem (pos n) m = refl
abs_rem (negsuc k) m = abs_neg (suc k % m)
