-- Document 01's example, by computation. Assumes nothing.
use mathlib.Core.Path.{refl, sym}
use native.Mathlib.Omega.{arith}
use Rattle.weak_orders.specs.Window.{iter, padded}
use Rattle.ranking.specs.Counts.{a}
use Rattle.successors.specs.Rules.{rule_of, in_form, is_rule, step}
use Rattle.frames.specs.Fields.{same_bytes}
use Rattle.levels.specs.Level.{level_of, setting_ok}
use Rattle.frames.specs.Answer.{newest}
use Rattle.decimals.specs.Text.{digits, decimal, signed, commaed, joined}
use Rattle.decimals.specs.Reading.{further, next, both, begins_with, behind, starts_with, closed, ended, run, value}
use Rattle.decimals.specs.Reading.{well_written, number, negative, positive, signed_number, comma_then, numbers}
use Rattle.sheets.specs.Sheet.{length_and_rule, top_and_spacing, fields, sheet_lines, wholly, parse}
use Rattle.sheets.specs.Judgement.{round_of, judged, judged_sheet, judged_text}
use Rattle.printing.specs.Printing.{line_text, step_line, round_line, round_lines, opening_text, lines_of, printed_text}
use Rattle.printing.specs.Sample.{sample_sheet, Sample, second_sheet, TwoSheets}
use Rattle.printing.proofs.Printouts.{claims}

pub sample : Sample
unfolding iter padded a rule_of in_form is_rule step same_bytes level_of setting_ok newest digits decimal signed commaed joined
    further next both begins_with behind starts_with closed ended run value well_written number negative positive signed_number comma_then numbers
    length_and_rule top_and_spacing fields sheet_lines wholly parse round_of judged judged_sheet judged_text
    line_text step_line round_line round_lines opening_text lines_of printed_text
sample = refl

-- The claim on two sheets there: its hypotheses are met.
pub two_sheets : TwoSheets
unfolding iter padded a rule_of in_form is_rule step same_bytes setting_ok
    further next both begins_with behind starts_with closed ended run value well_written number negative positive signed_number comma_then numbers
    length_and_rule top_and_spacing fields sheet_lines wholly parse round_of judged judged_sheet judged_text
two_sheets = let b = claims.starts sample_sheet second_sheet _ _ refl refl refl refl in (b, sym (b.only 2 (omega arith) refl))
