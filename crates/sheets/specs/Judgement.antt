-- What becomes of a sheet (document 01, "The printed round": 14, 6, where n is 1 to 8, 7, 8, 9). Values are judged as they were read.
use Rattle.std.specs.Prelude.{cond, not, ◌&&◌, List, ℕ, min, leb, eqb, ℤ, length, take, Option as Optional, Some, None, Result, Ok, Err}
use Rattle.std.proofs.Math.Option.{Option, none, some}
use Rattle.weak_orders.specs.Window.{padded}
use Rattle.successors.specs.Rules.{in_form, is_rule}
use Rattle.refusals.specs.declared.Cause.{Cause}
use Rattle.refusals.specs.declared.Cause.TheVariants.{WindowLength, RuleNumber, NotWeakOrder, LevelSetting, SheetMalformed}
use Rattle.levels.specs.declared.Setting.{Setting}
use Rattle.levels.specs.Level.{setting_of, setting_ok}
use Rattle.sheets.specs.declared.judge.Round.{Round}
use Rattle.sheets.specs.declared.sheet.Sheet.{Sheet}
use Rattle.sheets.specs.Sheet.{RawSheet, parse}

-- the round that a sheet asks for
unfoldable pub round_of : RawSheet → Round
round_of x = record { n = x.n; rule = x.rule; setting = setting_of x.top x.spacing; window = padded x.start }

-- tests 6 to 9
unfoldable pub judged : RawSheet → Result Round Cause
judged x =
    cond (not (leb 1 x.n && leb x.n 8)) (Err WindowLength) (
    cond (not (is_rule x.rule)) (Err RuleNumber) (
    cond (not (eqb (length x.start) x.n && in_form x.rule x.start)) (Err NotWeakOrder) (
    cond (not (setting_ok x.n (setting_of x.top x.spacing))) (Err LevelSetting) (
    Ok (round_of x)))))

-- a text, from test 14 on
unfoldable pub judged_sheet : Option RawSheet → Result Round Cause
judged_sheet none = Err SheetMalformed
judged_sheet (some x) = judged x

unfoldable pub judged_text : List ℕ → Result Round Cause
judged_text s = judged_sheet (parse s)

-- ---- what the functions hold

-- the sheet that a struct holds
unfoldable pub raw_of : Sheet → RawSheet
raw_of s = record { n = s.n; rule = s.rule; top = s.top; spacing = s.spacing; start = take s.start.count s.start.values }

-- an item as a byte: 255 is too large for a symbol, as everything above it
abbrev pub symbol_of : ℕ → ℕ
symbol_of v = min v 255

-- the level setting, where it passes test 9
unfoldable pub setting_test : ℕ → ℤ → ℕ → Optional Setting
setting_test n top spacing = let s = setting_of top spacing in cond (setting_ok n s) (Some s) None
