-- Membership in R by tests on the window, and rules 2 and 3 by membership in R. Assumes nothing.
use mathlib.Core.Bool.{Bool, true, false}
use mathlib.Core.List.{List, ◌∷◌}
use mathlib.Core.Path.{◌≡◌, sym, subst}
use Prim.Native.Nat.{ℕ, zero, suc, ◌+◌, ◌-◌, ◌≤◌, ◌<◌}
use native.Mathlib.Omega.{arith}
use native.Mathlib.Decide.{dec_lt}
use native.Mathlib.Numerals.{add-one}
use Rattle.std.proofs.Math.Bool.{and-true}
use lib.Dec.{leb, eqb}
use borrow.Author.Tests.{leb-true, le-leb}
use Rattle.std.specs.List.{list_all, list_any, range_with_len}
use Rattle.weak_orders.specs.Says.{Says}
use Rattle.weak_orders.specs.Window.{is_height}
use Rattle.weak_orders.proofs.HeightForm.{says_height}
use Rattle.weak_orders.proofs.Tests.{◌∈◌, here, there, split_mem, not_true→false, false→not_true, says_no, says_as}
use Rattle.rotations.specs.Rotation.{is_greatest}
use Rattle.successors.specs.Rules.{in_r, in_r⁻, rule2, rule3}
use Rattle.successors.proofs.SetR.{R_height, R_first, R_positive, says_zeros}
use Rattle.successors.proofs.Chains.{says_list_all, says_between, says_contains}

pub says_none_above : (x : ℕ) (b : List ℕ) → Says (list_all (λ v. leb v x) b) ((v : ℕ) → v ∈ b → v ≤ x)
says_none_above x b = says_list_all (λ v. record { to = leb-true v x; of = le-leb v x }) b

-- each number from a up to x occurs in b
pub says_from : (b : List ℕ) (a x : ℕ) → Says (list_all (λ v. list_any (λ y. eqb y v) b) (range_with_len a (x - a))) ((v : ℕ) → a ≤ v → v < x → v ∈ b)
says_from b a x = says_as (says_between (λ v. list_any (λ y. eqb y v) b) a (x - a))
    (λ h v le lt. (says_contains v b).to (h v le (omega arith)))
    (λ h v le lt. (says_contains v b).of (h v le (omega arith)))

-- ---- the window with the first symbol x and the others b

pub in_r_zero : (x : ℕ) (b : List ℕ) → x ≡ 0 → false ≡ in_r (x ∷ b)
in_r_zero x b e = rw e (sym (not_true→false (in_r (0 ∷ b)) (R_positive b)))

pub in_r-positive : (x : ℕ) (b : List ℕ) → in_r (x ∷ b) ≡ true → 0 < x
in_r-positive zero b r = absurd (R_positive b r)
in_r-positive (suc x) b r = omega arith

-- a larger symbol behind the first
pub in_r_above : (x y : ℕ) (b : List ℕ) → list_all (λ v. leb v y) b ≡ false → x ≤ y → in_r (x ∷ b) ≡ false
in_r_above x y b f le = not_true→false (in_r (x ∷ b)) (λ r.
    false→not_true _ f ((says_none_above y b).of (λ v m. omega (arith, R_first x b r v (there m)))))

-- the window a b is in height form, so the symbols below a occur in b
module _ (a x : ℕ) (b : List ℕ) (form : is_height (a ∷ b) ≡ true) where
  behind : (y v : ℕ) → is_height (y ∷ b) ≡ true → v < y → v ∈ b
  behind y v h lt = split_mem (λ e. absurd (omega arith)) (λ m. m) ((says_height (y ∷ b)).to h y here v lt)

  -- a symbol below x missing
  pub in_r_gap : list_all (λ v. list_any (λ y. eqb y v) b) (range_with_len a (x - a)) ≡ false → in_r (x ∷ b) ≡ false
  in_r_gap f = not_true→false (in_r (x ∷ b)) (λ r.
      false→not_true _ f ((says_from b a x).of (λ v le lt. behind x v (R_height (x ∷ b) r) lt)))

  -- neither: the rotations decide
  pub in_r_greatest : 0 < x → list_all (λ v. leb v x) b ≡ true → list_all (λ v. list_any (λ y. eqb y v) b) (range_with_len a (x - a)) ≡ true →
      is_greatest (x ∷ b) (x ∷ b) ≡ in_r (x ∷ b)
  unfolding in_r
  in_r_greatest pos top full =
      rw (height, says_no (says_zeros (x ∷ b)) (λ z. omega (arith, z x here))) (sym (and-true (is_greatest (x ∷ b) (x ∷ b))))
    where
      below : (v : ℕ) → v < x → v ∈ b
      below v lt = elim (dec_lt v a) [ yes l ↦ behind a v form l | no l ↦ (says_from b a x).to full v (omega arith) lt ]

      low : (v : ℕ) → v ∈ x ∷ b → v ≤ x
      low v m = split_mem (λ e. omega arith) ((says_none_above x b).to top v) m

      height : is_height (x ∷ b) ≡ true
      height = (says_height (x ∷ b)).of (λ z m v lt. there (below v (omega (arith, low z m))))

-- ---- the rules, for the window u with the first symbol x and the others b

-- a first symbol that is written otherwise
in_r_as : {x y : ℕ} (b : List ℕ) {t : Bool} → x ≡ y → in_r (x ∷ b) ≡ t → in_r (y ∷ b) ≡ t
in_r_as b {t} e h = subst (λ k. in_r (k ∷ b) ≡ t) e h

module _ (u : List ℕ) (x : ℕ) (b : List ℕ) (e : u ≡ x ∷ b) where
  pub rule2_up : in_r ((x + 1) ∷ b) ≡ true → x + 1 ≡ rule2 u
  unfolding rule2
  rule2_up p = rw (e, add-one, in_r_as b (add-one x) p)

  pub rule2_stays : in_r ((x + 1) ∷ b) ≡ false → in_r (x ∷ b) ≡ false → x ≡ rule2 u
  unfolding rule2
  rule2_stays p q = rw (e, in_r_as b (add-one x) p, q)

  pub rule3_down : in_r (x ∷ b) ≡ true → x - 1 ≡ rule3 u
  unfolding rule3
  rule3_down p = rw (e, p)

  pub rule3_stays : in_r (x ∷ b) ≡ false → in_r ((x + 1) ∷ b) ≡ false → x ≡ rule3 u
  unfolding rule3
  rule3_stays p q = rw (e, p, in_r_as b (add-one x) q)

  pub rule3_once : in_r (x ∷ b) ≡ false → in_r ((x + 1) ∷ b) ≡ true → in_r ((x + 2) ∷ b) ≡ false → x + 1 ≡ rule3 u
  unfolding rule3
  rule3_once p q r = let two : x + 2 ≡ suc (suc x) = omega arith in rw (e, add-one, p, in_r_as b (add-one x) q, in_r_as b two r)

  pub rule3_twice : in_r (x ∷ b) ≡ false → in_r ((x + 1) ∷ b) ≡ true → in_r ((x + 2) ∷ b) ≡ true → x + 2 ≡ rule3 u
  unfolding rule3
  rule3_twice p q r = let two : x + 2 ≡ suc (suc x) = omega arith in rw (e, two, p, in_r_as b (add-one x) q, in_r_as b two r)

pub rule2_once : (u : List ℕ) (x : ℕ) (b : List ℕ) → u ≡ x ∷ b →
    in_r ((x + 1) ∷ b) ≡ false → in_r (x ∷ b) ≡ true → in_r ((x - 1) ∷ b) ≡ false → x - 1 ≡ rule2 u
unfolding rule2 in_r⁻
rule2_once u zero b e p q r = absurd (R_positive b q)
rule2_once u (suc x) b e p q r = let d : suc x - 1 ≡ x = omega arith in rw (e, in_r_as b (add-one (suc x)) p, q, in_r_as b d r)

pub rule2_twice : (u : List ℕ) (x : ℕ) (b : List ℕ) → u ≡ x ∷ b →
    in_r ((x + 1) ∷ b) ≡ false → in_r (x ∷ b) ≡ true → in_r ((x - 1) ∷ b) ≡ true → x - 1 - 1 ≡ rule2 u
unfolding rule2 in_r⁻
rule2_twice u zero b e p q r = absurd (R_positive b q)
rule2_twice u (suc x) b e p q r =
    let d : suc x - 1 ≡ x = omega arith in
    let d₂ : suc x - 1 - 1 ≡ suc x - 2 = omega arith in
    rw (e, in_r_as b (add-one (suc x)) p, q, in_r_as b d r) d₂
