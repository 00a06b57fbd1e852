-- The examples, by computation. Assumes nothing.
use mathlib.Core.Path.{refl}
use Rattle.weak_orders.specs.Window.{all, count, below, is_rank}
use Rattle.successors.specs.Rules.{in_form, is_rule}
use Rattle.frames.specs.Fields.{same_bytes}
use Rattle.levels.specs.Level.{setting_ok}
use Rattle.decimals.specs.Reading.{further, next, both, begins_with, behind, starts_with, closed, ended, run, value}
use Rattle.decimals.specs.Reading.{well_written, number, negative, positive, signed_number, comma_then, numbers}
use Rattle.sheets.specs.Sheet.{has_title, length_and_rule, top_and_spacing, fields, sheet_lines, wholly, parse}
use Rattle.sheets.specs.Judgement.{round_of, judged}
use Rattle.faults.specs.Faults.{has_byte, ends_line, malformed, sheet_fault, text_fault, fault_of}
use Rattle.faults.specs.Examples.{Examples}

pub examples : Examples
unfolding all count below is_rank in_form is_rule same_bytes setting_ok further next both begins_with behind starts_with closed ended run value
    well_written number negative positive signed_number comma_then numbers length_and_rule top_and_spacing fields sheet_lines wholly parse round_of judged
    has_byte ends_line has_title malformed sheet_fault text_fault fault_of
examples = record {
  accepted = refl;
  empty = refl;
  tab = refl;
  no_line_feed = refl;
  first_line = refl;
  second_line = refl;
  count = refl;
  rank_form = refl;
  spacing = refl;
  lowest_level = refl;
}
