-- The cases of rule 1, each as the tests on the window that decide it. Assumes nothing.
use mathlib.Core.Bool.{Bool, true, false, cond, not, ◌&&◌}
use mathlib.Core.List.{List, ◌∷◌}
use mathlib.Core.Logic.{◌≢◌}
use mathlib.Core.Path.{◌≡◌, ◌∙◌}
use Prim.Native.Nat.{ℕ, ◌+◌, ◌-◌, ◌≤◌, ◌<◌}
use native.Mathlib.Omega.{arith}
use native.Mathlib.Numerals.{add-one}
use Rattle.std.proofs.Math.Bool.{and-false}
use lib.Dec.{eqb}
use lib.ListN.{take, drop}
use borrow.Author.Tests.{lt-ltb, le-ltb, eq-eqb, ne_eqb}
use Rattle.weak_orders.specs.Tables.{tally}
use Rattle.weak_orders.specs.Window.{all, num, is_rank}
use Rattle.weak_orders.proofs.RankForm.{says_rank, rank_positive}
use Rattle.weak_orders.proofs.Tests.{◌∈◌}
use Rattle.rotations.specs.Rotation.{start}
use Rattle.successors.specs.ByTable.{passes_by, scan_by, Low}
use Rattle.successors.specs.Rules.{rule1, is_plain, single, before, case3, case4, largest_below}
use Rattle.successors.proofs.Tables.{passes_by-single, all_cong}
use Rattle.successors.proofs.Windows.{mem_part}

-- the window u is the first symbol x and the others, b
module _ (u : List ℕ) (x : ℕ) (b : List ℕ) (e : u ≡ x ∷ b) where
  pub case3_plain : is_plain u ≡ true → false ≡ case3 x b
  unfolding case3
  case3_plain h = rw (rw e at h)

  pub case3_low : x ≤ 1 → false ≡ case3 x b
  unfolding case3
  case3_low h = rw (le-ltb 1 x h, and-false)

  pub case3_once : num u x ≤ 1 → false ≡ case3 x b
  unfolding case3
  case3_once h = rw (le-ltb 1 (num (x ∷ b) x) (rw e at h)) (simp and-false)

  pub case3_clear : is_plain u ≡ false → 1 < x → 1 < num u x → all (single u) (before (start u) u) ≡ case3 x b
  unfolding case3
  case3_clear h big many = rw (e, rw e at h, lt-ltb 1 x big, lt-ltb 1 (num (x ∷ b) x) (rw e at many))

  module _ (p : ℕ) where
    pub case4_low : x ≤ 1 → false ≡ case4 x b p
    unfolding case4
    case4_low h = rw (le-ltb 1 x h)

    pub case4_many : num u x ≢ 1 → false ≡ case4 x b p
    unfolding case4
    case4_many h = rw (ne_eqb (num (x ∷ b) x) 1 (rw e at h), and-false)

    pub case4_one : p ≡ 1 → false ≡ case4 x b p
    unfolding case4
    case4_one h = rw (eq-eqb p 1 h) (simp and-false)

    pub case4_clear : 1 < x → num u x ≡ 1 → p ≢ 1 →
        all (λ v. not (eqb v p) && single u v) (before (start (p ∷ b)) u) ≡ case4 x b p
    unfolding case4
    case4_clear big once ne = rw (e, lt-ltb 1 x big, eq-eqb (num (x ∷ b) x) 1 (rw e at once), ne_eqb p 1 ne)

  -- the first case that applies
  pub rule1_chain : (ones p : ℕ) (plain : Bool) → plain ≡ is_plain u → ones ≡ num u 1 → p ≡ largest_below u x →
      rule1 u ≡ cond (plain && eqb x (ones + 1)) 1 (
      cond (plain && eqb x 1) ones (
      cond (case3 x b) (x + num u x - 1) (
      cond (case4 x b p) p x)))
  unfolding rule1
  rule1_chain ones p plain is-plain is-ones is-p = rw (is-plain, is-ones, is-p, add-one, e)

-- ---- the scans, by the one table of counts

-- no rank window holds a 0
pub not_zero : (u : List ℕ) → is_rank u ≡ true → (v : ℕ) → v ∈ u → (not (eqb v 0) && single u v) ≡ single u v
not_zero u rank v m = rw (ne_eqb v 0 (λ e. omega (arith, rank_positive u ((says_rank u).to rank) v m)))

module _ (w t : List ℕ) (n : ℕ) (low : Low (take n w)) (h : t ≡ tally (take n w)) where
  -- a scan of symbols of the window, as a test that is the same on them
  scan : (p : ℕ) (f : ℕ → Bool) → ((v : ℕ) → v ∈ take n w → (not (eqb v p) && single (take n w) v) ≡ f v) →
      (l : List ℕ) → ((v : ℕ) → v ∈ l → v ∈ take n w) → all (passes_by t p) l ≡ all f l
  scan p f same l sub = all_cong (passes_by t p) f l (λ v m. passes_by-single t (take n w) h p v (low v (sub v m)) ∙ same v (sub v m))

  -- cases 3 and 4
  pub scan_case : (p : ℕ) (f : ℕ → Bool) → ((v : ℕ) → v ∈ take n w → (not (eqb v p) && single (take n w) v) ≡ f v) →
      (j : ℕ) → scan_by j t (take n w) p ≡ all f (before j (take n w))
  unfolding scan_by before
  scan_case p f same j = scan p f same (drop 1 (take (j - 1) (take n w))) (mem_part 1 (j - 1) (take n w))

  -- plain
  pub plain_scan : is_rank (take n w) ≡ true → all (passes_by t 0) (take n w) ≡ is_plain (take n w)
  unfolding is_plain
  plain_scan rank = scan 0 (single (take n w)) (not_zero (take n w) rank) (take n w) (λ v m. m)
