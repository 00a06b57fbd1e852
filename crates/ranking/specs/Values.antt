-- Worked values of document 01, "Windows" and "Place".
use Rattle.std.specs.Prelude.{[], ◌∷◌, map, ◌≡◌}
use Rattle.weak_orders.specs.Window.{range}
use Rattle.ranking.specs.Counts.{L, a}
use Rattle.ranking.specs.Dictionary.{height_windows, completions, place, window_at}

pub record Values : Type 0 where
  pub row_4 : map (L 4) (range 7) ≡ (0 ∷ 1 ∷ 14 ∷ 36 ∷ 24 ∷ 0 ∷ 0 ∷ [])
  pub totals : map a (range 7) ≡ (1 ∷ 1 ∷ 3 ∷ 13 ∷ 75 ∷ 541 ∷ 4683 ∷ [])
  pub total_16 : a 16 ≡ 5315654681981355
  pub windows_3 :
      height_windows 3 ≡ (
      (0 ∷ 0 ∷ 0 ∷ []) ∷ (0 ∷ 0 ∷ 1 ∷ []) ∷ (0 ∷ 1 ∷ 0 ∷ []) ∷ (0 ∷ 1 ∷ 1 ∷ []) ∷ (0 ∷ 1 ∷ 2 ∷ []) ∷ (0 ∷ 2 ∷ 1 ∷ [])
      ∷ (1 ∷ 0 ∷ 0 ∷ []) ∷ (1 ∷ 0 ∷ 1 ∷ []) ∷ (1 ∷ 0 ∷ 2 ∷ []) ∷ (1 ∷ 1 ∷ 0 ∷ []) ∷ (1 ∷ 2 ∷ 0 ∷ [])
      ∷ (2 ∷ 0 ∷ 1 ∷ []) ∷ (2 ∷ 1 ∷ 0 ∷ []) ∷ [])
  pub completions_1 : completions 3 (1 ∷ []) ≡ 5
  pub place_201 : place (2 ∷ 0 ∷ 1 ∷ []) ≡ 11
  pub window_11 : window_at 3 11 ≡ (2 ∷ 0 ∷ 1 ∷ [])
