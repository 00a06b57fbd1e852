-- The examples, by computation. Assumes nothing.
use mathlib.Core.Path.{refl}
use Rattle.weak_orders.specs.Window.{range, is_length}
use Rattle.successors.specs.Rules.{in_form}
use Rattle.levels.specs.Table.{table_ok}
use Rattle.levels.specs.Level.{lowered, rounded, level_of, setting_ok}
use Rattle.levels.specs.Examples.{Examples}
use Rattle.levels.proofs.WindowLevels.{levels_ok}

pub examples : Examples
unfolding range is_length in_form table_ok lowered rounded level_of setting_ok
examples = record {
  rounds = refl;
  heights = refl;
  ranks = refl;
  tied_10 = refl;
  tied_24 = refl;
  narrow = refl;
  wide = refl;
  lowest = refl;
  below = refl;
  below-rounded = refl;
  window = levels_ok 3 1 _ _ refl refl (refl, refl);
  table-heights = refl;
  table-ranks = refl;
  on_table = refl;
  no_table = refl;
  other_top = refl;
  none = refl;
  lowest_entry = refl;
  table_window = levels_ok 3 1 _ _ refl refl (refl, refl);
}
