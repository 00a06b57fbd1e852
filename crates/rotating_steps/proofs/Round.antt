-- A whole round from the lowest window counts every weak order that a step does not rotate. Assumes nothing.
use mathlib.Core.Bool.{Bool, true, false, cond, not, ◌&&◌}
use mathlib.Core.List.{List, ◌∷◌}
use mathlib.Core.Path.{◌≡◌, refl, ap, ◌∙◌}
use Prim.Native.Nat.{ℕ, zero, suc, ◌-◌, ◌≤◌}
use native.Mathlib.Omega.{arith}
use lib.Dec.{eqb, leb}
use lib.ListN.{length, take, replicate, length-replicate}
use borrow.Author.Tests.{le-leb}
use Rattle.weak_orders.specs.Window.{is_rank, is_height}
use Rattle.weak_orders.proofs.FormTests.{says_length}
use Rattle.ranking.specs.Counts.{a}
use Rattle.successors.specs.Rules.{in_form, is_rule}
use Rattle.successors.proofs.Steppable.{Steppable}
use Rattle.universal_cycle.proofs.RotationClasses1.{joined1}
use Rattle.universal_cycle.proofs.RotationClasses23.{joined2}
use Rattle.universal_cycle.proofs.Rounds.{universal_cycle}
use Rattle.rotating_steps.specs.Kinds.{rotates, same, other}
use Rattle.rotating_steps.specs.Tallied.{tallied}
use Rattle.rotating_steps.proofs.Claims.{step_kinds}
use Rattle.rotating_steps.proofs.CountedByTour.{counted_by_tour}
use Rattle.rotating_steps.proofs.Loop.{others}
use Rattle.rotating_steps.proofs.Selected.{selected}

abbrev pub lowest : ℕ → List ℕ
lowest r = replicate 16 (cond (eqb r 1) 1 0)

take-replicate : (n m s : ℕ) → n ≤ m → take n (replicate m s) ≡ replicate n s
take-replicate zero m s le = refl
take-replicate (suc n) zero s le = absurd (omega arith)
take-replicate (suc n) (suc m) s le = ap (λ l. s ∷ l) (take-replicate n m s (omega arith))

-- in either form, by the outcome of the test
lowest_by : (b : Bool) (m : ℕ) → let w : List ℕ = replicate (suc m) (cond b 1 0) in cond b (is_rank w) (is_height w) ≡ true
lowest_by true m = (joined1 m).root_in.1
lowest_by false m = (joined2 m).root_in.1

lowest_form : (r n : ℕ) → 1 ≤ n → in_form r (replicate n (cond (eqb r 1) 1 0)) ≡ true
unfolding in_form
lowest_form r zero pos = absurd (omega arith)
lowest_form r (suc m) pos = lowest_by (eqb r 1) m

module _ (r n : ℕ) (t : is_rule r ≡ true) (pos : 1 ≤ n) (few : n ≤ 16) where
  window : take n (lowest r) ≡ replicate n (cond (eqb r 1) 1 0)
  window = take-replicate n 16 (cond (eqb r 1) 1 0) few

  pub can_start : Steppable r n (lowest r)
  can_start = (t, ((says_length n).of (pos, few), rw window (lowest_form r n pos)))

  pub round_others : others r (take n (lowest r)) (a n) ≡ other r n
  unfolding other
  round_others =
      let size : length (take n (lowest r)) ≡ n = ap length window ∙ length-replicate n (cond (eqb r 1) 1 0) in
      counted_by_tour (universal_cycle r t n pos (take n (lowest r)) (size, can_start.1.1)) (λ w. not (rotates r w)) (selected r n (λ w. not (rotates r w)))

pub other_le : (r n : ℕ) → other r n ≤ a n
other_le r n = omega (arith, step_kinds.sums r n)

-- What is answered.
pub tallied_in : (r n : ℕ) → is_rule r ≡ true → 1 ≤ n → n ≤ 8 → record { same = a n - other r n; other = other r n } ≡ tallied r n
unfolding tallied
tallied_in r n t pos few =
    let e : a n - other r n ≡ same r n = omega (arith, step_kinds.sums r n) in
    rw (t, le-leb 1 n pos, le-leb n 8 few, e)

pub tallied_out : (r n : ℕ) → (is_rule r && (leb 1 n && leb n 8)) ≡ false → record { same = 0; other = 0 } ≡ tallied r n
unfolding tallied
tallied_out r n f = rw f
