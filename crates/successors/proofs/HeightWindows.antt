-- A window in height form: its first symbol, and those behind it as a part of the array. Assumes nothing.
use mathlib.Core.Bool.{Bool, true, false, cond}
use mathlib.Core.List.{List, ◌∷◌}
use mathlib.Core.Path.{◌≡◌, refl, sym, ap, ◌∙◌}
use Prim.Native.Nat.{ℕ, ◌+◌, ◌-◌, ◌≤◌, ◌<◌}
use native.Mathlib.Omega.{arith}
use lib.Dec.{leb, eqb}
use lib.ListN.{length, take, get_or, set}
use Rattle.std.specs.Prelude.{Some, None, is_some}
use Rattle.std.specs.List.{list_all, list_any, range_with_len, slice_range}
use Rattle.weak_orders.specs.Window.{is_height}
use Rattle.weak_orders.proofs.FormTests.{height_low}
use Rattle.rotations.specs.Rotation.{own_standing, is_greatest}
use Rattle.successors.specs.Rules.{in_r, rule2, rule3}
use Rattle.successors.specs.declared.height_rules.HeightWindow.{HeightWindow}
use Rattle.successors.proofs.Chains.{slice_behind}
use Rattle.successors.proofs.SetRTests.{in_r_greatest, in_r_zero, in_r_gap, in_r_above, in_r-positive, rule2_up, rule2_stays, rule2_once, rule2_twice, rule3_down, rule3_stays, rule3_once, rule3_twice}
use Rattle.successors.proofs.Windows.{InArray, parts, with_first, first_in}

abbrev pub head : HeightWindow → ℕ
head h = get_or h.w 0 0

abbrev pub tail : HeightWindow → List ℕ
tail h = slice_range h.w 1 h.n

module _ (h : HeightWindow) (long : length h.w ≡ 16) where
  array : InArray h.w h.n
  array = record { long = long; some = h.some; most = h.most }

  pub window : take h.n h.w ≡ head h ∷ tail h
  window = parts array ∙ ap (λ (l : List ℕ). head h ∷ l) (sym (slice_behind h.w h.n h.some))

  pub first_put : (x : ℕ) → take h.n (set h.w 0 x) ≡ x ∷ tail h
  first_put x = with_first array x ∙ ap (λ (l : List ℕ). x ∷ l) (sym (slice_behind h.w h.n h.some))

  pub form : is_height (head h ∷ tail h) ≡ true
  form = rw window at h.form

  pub low : head h ≤ 15
  low = omega (arith, h.most, height_low h.w h.n long h.most h.form (head h) (first_in array))

  -- with x first, where no symbol is larger and none below it is missing: the rotations decide
  pub decided : (x : ℕ) → 0 < x → list_all (λ v. leb v x) (tail h) ≡ true →
      list_all (λ v. list_any (λ y. eqb y v) (tail h)) (range_with_len (head h) (x - head h)) ≡ true →
      is_some (own_standing (take h.n (set h.w 0 x))) ≡ in_r (x ∷ tail h)
  unfolding own_standing
  decided x pos top full = rw (first_put x) (some_if (is_greatest (x ∷ tail h) (x ∷ tail h)) _ ∙ in_r_greatest (head h) x (tail h) form pos top full)
    where
      some_if : (b : Bool) (y : ℕ) → is_some (cond b (Some y) None) ≡ b
      some_if true y = refl
      some_if false y = refl

  -- a symbol behind is larger than w1 + 1
  module _ (larger : list_all (λ v. leb v (head h + 1)) (tail h) ≡ false) where
    here_out : in_r (head h ∷ tail h) ≡ false
    here_out = in_r_above (head h) (head h + 1) (tail h) larger (omega arith)

    up_out : in_r ((head h + 1) ∷ tail h) ≡ false
    up_out = in_r_above (head h + 1) (head h + 1) (tail h) larger (omega arith)

    pub rule2_larger : head h ≡ rule2 (take h.n h.w)
    rule2_larger = rule2_stays _ (head h) (tail h) window up_out here_out

    pub rule3_larger : head h ≡ rule3 (take h.n h.w)
    rule3_larger = rule3_stays _ (head h) (tail h) window here_out up_out

-- what the returns of `in_r`, `successor2` and `successor3` rest on
pub ruleset in_r_cases = (form, in_r_zero, in_r_above, in_r_gap, decided)

pub ruleset rule2_cases = (window, low, in_r-positive, rule2_larger, rule2_up, rule2_stays, rule2_once, rule2_twice)

pub ruleset rule3_cases = (window, low, in_r-positive, rule3_larger, rule3_down, rule3_stays, rule3_once, rule3_twice)
