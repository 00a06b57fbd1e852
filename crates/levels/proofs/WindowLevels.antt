-- The levels of a window: in range, and in the reverse order of its symbols. Assumes nothing.
use mathlib.Core.Bool.{true}
use mathlib.Core.List.{List}
use mathlib.Core.Path.{◌≡◌, ap}
use Prim.Native.Nat.{ℕ, ◌≤◌, ◌<◌}
use native.Mathlib.Omega.{arith}
use lib.Dec.{eqb}
use lib.ListN.{length}
use Rattle.weak_orders.proofs.FormTests.{says_length}
use Rattle.weak_orders.proofs.HeightForm.{height-below}
use Rattle.weak_orders.proofs.RankForm.{says_rank, rank_positive, rank_le_length}
use Rattle.weak_orders.proofs.Tests.{◌∈◌, by_test}
use Rattle.successors.specs.Rules.{in_form}
use Rattle.levels.specs.declared.Setting.{Setting}
use Rattle.levels.specs.Level.{spacings, level_at, level_of, setting_ok}
use Rattle.levels.proofs.Levels.{level_same, ordered}
use Rattle.levels.specs.Levels.{Levels, LevelsOk}

-- the spacings below the top: fewer than there are symbols, and in the order of the symbols
module _ (rule : ℕ) (w : List ℕ) (form : in_form rule w ≡ true) where
  spacings-below : (v : ℕ) → v ∈ w → spacings rule v < length w
  unfolding in_form spacings
  spacings-below v m = by_test (eqb rule 1)
      (λ e.
      let rank = (says_rank w).to (rw e at form) in
      rw e (omega (arith, rank_positive w rank v m, rank_le_length w rank v m)))
      (λ e. rw e (height-below w (rw e at form) v m))

  spacings_order : (u v : ℕ) → u ∈ w → u < v → spacings rule u < spacings rule v
  unfolding in_form spacings
  spacings_order u v m lt = by_test (eqb rule 1)
      (λ e. rw e (omega (arith, rank_positive w ((says_rank w).to (rw e at form)) u m)))
      (λ e. rw e lt)

-- of a window that has no more than n symbols
pub levels_within : (n rule : ℕ) (s : Setting) (w : List ℕ) → n ≤ 16 → setting_ok n s ≡ true → length w ≤ n → in_form rule w ≡ true →
    Levels rule s w
unfolding level_of level_at
levels_within n rule s w few ok short form =
    let o = ordered n s few ok in
    let d : ℕ → ℕ = spacings rule in
    let within : (v : ℕ) → v ∈ w → d v < n = λ v m. omega (arith, spacings-below rule w form v m) in
    record {
      low = λ v m. o.low (d v) (within v m);
      high = λ v m. o.high (d v) (within v m);
      multiple = λ v m. o.multiple (d v) (within v m);
      entry = λ v m t. rw t;
      falling = λ u v mu mv lt. o.falling (d u) (d v) (spacings_order rule w form u v mu lt) (within v mv);
      same = λ u v mu mv. (
        λ e.
            let q = level_same o (d u) (d v) (within u mu) (within v mv) e in
            let up : ¬ (u < v) = λ lt. omega (arith, spacings_order rule w form u v mu lt) in
            let down : ¬ (v < u) = λ lt. omega (arith, spacings_order rule w form v u mv lt) in
            omega arith,
        ap (level_of rule s),
      );
    }

pub levels_ok : LevelsOk
levels_ok n rule s w one ok (long, form) = levels_within n rule s w ((says_length n).to one).1 ok (omega arith) form
