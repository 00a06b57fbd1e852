-- What the readers of a sheet answer, for what they find.
use Rattle.std.specs.Prelude.{Option, Some, None}
use Rattle.std.proofs.Math.Option.{Option as Maybe, none, some}
use Rattle.decimals.specs.Held.{numbers_of}
use Rattle.sheets.specs.declared.sheet.Sheet.{Sheet}
use Rattle.sheets.specs.Sheet.{RawSheet}

-- a sheet in its struct
abbrev pub sheet_held : RawSheet → Sheet
sheet_held x = record { n = x.n; rule = x.rule; top = x.top; spacing = x.spacing; start = numbers_of x.start }

-- the sheet of a text, or none
abbrev pub parsed_of : Maybe RawSheet → Option Sheet
parsed_of (some x) = Some (sheet_held x)
parsed_of none = None
