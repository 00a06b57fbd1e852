-- `has_title`: the first line, as `begins_with` tests for it. Assumes nothing.
use mathlib.Core.Path.{◌≡◌}
use Rattle.decimals.specs.Reading.{begins_with}
use Rattle.sheets.specs.Sheet.{title_line, has_title}
use Rattle.sheets.proofs.sheet.has_title.Goals as goal

pub returns : goal.returns
unfolding has_title
returns c = let b = c.begins_with in
    let e : b.result ≡ begins_with title_line c.args.text.now = b.ensures in
    e
