-- `parse`: too long, no two lines, or more than they; or the sheet. Assumes nothing.
use Rattle.sheets.proofs.SheetLines.{parse_long, parse-missing, parse-part, parse_whole}
use Rattle.sheets.proofs.sheet.parse.Goals as goal

pub returns-then-text-gt128 : goal.returns-then-text-gt128
returns-then-text-gt128 c = rw (parse_long c.args.text.now c.if-text-gt128.true)

pub returns-in_err-lines : goal.returns-in_err-lines
returns-in_err-lines c = rw (c.from_residual.ensures, parse-missing c.args.text.now c.if-text-gt128.false c.in_err-lines.ensures)

pub returns-then-lines-text : goal.returns-then-lines-text
returns-then-lines-text c = rw (parse-part c.args.text.now c.if-text-gt128.false c.in_ok-lines.ensures c.if-lines-text.true)

pub returns : goal.returns
returns c = parse_whole c.args.text.now c.if-text-gt128.false c.in_ok-lines.ensures c.if-lines-text.false
