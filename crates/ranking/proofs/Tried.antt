-- The worked values: antt computes them. Assumes nothing.
use mathlib.Core.Path.{refl}
use Rattle.weak_orders.specs.Window.{range}
use Rattle.ranking.specs.Counts.{L, a}
use Rattle.ranking.specs.Dictionary.{height_windows, completions, place, window_at}
use Rattle.ranking.specs.Values.{Values}

pub values : Values
unfolding range L a height_windows completions place window_at
values = record {
  row_4 = refl;
  totals = refl;
  total_16 = refl;
  windows_3 = refl;
  completions_1 = refl;
  place_201 = refl;
  window_11 = refl;
}
