-- Test 9 on values that are not yet narrowed. Assumes nothing.
use mathlib.Core.Bool.{Bool, true, false, ◌&&◌}
use mathlib.Core.Path.{◌≡◌, refl, sym, ◌∙◌}
use Prim.Native.Nat.{ℕ}
use lib.IntN.{ℤ}
use Rattle.weak_orders.proofs.Tests.{by_test}
use Rattle.levels.specs.Level.{setting_of, top_ok, spacing_ok, even_ok, setting_ok}
use Rattle.levels.proofs.Levels.{no_table}
use Rattle.std.specs.Prelude.{Some, None}
use Rattle.std.proofs.lemmas.Option.{none-some, same_Some}
use Rattle.levels.specs.declared.Setting.{Setting}
use Rattle.sheets.specs.Judgement.{setting_test}

-- the first test that fails decides
false_left : (a b : Bool) → a ≡ false → (a && b) ≡ false
false_left a b e = rw e

false_right : (a b : Bool) → b ≡ false → (a && b) ≡ false
false_right true b e = e
false_right false b e = refl

module _ (n : ℕ) (top : ℤ) (spacing : ℕ) where
  pub not_ok : setting_ok n (setting_of top spacing) ≡ false → setting_test n top spacing ≡ None
  unfolding setting_test
  not_ok e = rw e

  pub passes : setting_ok n (setting_of top spacing) ≡ true → setting_test n top spacing ≡ Some (setting_of top spacing)
  unfolding setting_test
  passes e = rw e

  pub top_out : top_ok top ≡ false → setting_test n top spacing ≡ None
  unfolding even_ok
  top_out e = not_ok (no_table n top spacing ∙ false_left (top_ok top) _ e)

  pub spacing_out : spacing_ok spacing ≡ false → setting_test n top spacing ≡ None
  unfolding even_ok
  spacing_out e = not_ok (no_table n top spacing ∙ false_right (top_ok top) _ (false_left (spacing_ok spacing) _ e))

  -- what the answer tells
  pub test_failed : None ≡ setting_test n top spacing → setting_ok n (setting_of top spacing) ≡ false
  test_failed e = by_test (setting_ok n (setting_of top spacing)) (λ q. absurd (none-some _ (e ∙ passes q))) (λ q. q)

  pub test_passed : (t : Setting) → Some t ≡ setting_test n top spacing → (setting_ok n (setting_of top spacing) ≡ true) × (t ≡ setting_of top spacing)
  test_passed t e = by_test (setting_ok n (setting_of top spacing))
      (λ q. (q, same_Some _ _ (e ∙ passes q)))
      (λ q. absurd (none-some _ (sym (e ∙ not_ok q))))
