-- The examples, by computation. Assumes nothing.
use mathlib.Core.Path.{refl}
use Rattle.weak_orders.specs.Window.{all}
use Rattle.frames.specs.Fields.{same_bytes}
use Rattle.levels.specs.Table.{level_allowed, falls_from, falls, table_ok}
use Rattle.decimals.specs.Text.{digits, decimal, signed}
use Rattle.decimals.specs.Reading.{further, next, both, begins_with, behind, starts_with, closed, ended, run, value}
use Rattle.decimals.specs.Reading.{well_written, number, negative, positive, signed_number}
use Rattle.level_files.specs.LevelFile.{level_lines, table_text, level_line, line_of, levels, wholly, read_table}
use Rattle.level_files.specs.Examples.{Examples}

pub examples : Examples
unfolding all same_bytes level_allowed falls_from falls table_ok digits decimal signed further next both begins_with behind starts_with closed
    ended run value well_written number negative positive signed_number level_lines table_text level_line line_of levels wholly read_table
examples = record {
  good = refl;
  written = refl;
  read = refl;
  no_line_feed = refl;
  seventeen = refl;
  fifteen = refl;
  minus_zero = refl;
  swapped = refl;
  high = refl;
  uneven = refl;
  equal = refl;
  capital = refl;
}
