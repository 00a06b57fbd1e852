-- `read_sheet`: malformed, or judged as `judge` does. Assumes nothing.
use mathlib.Core.Path.{refl, sym, ◌∙◌}
use Rattle.std.proofs.lemmas.Result.{err_from_is_err_and}
use Rattle.sheets.proofs.Judging.{same_cause, malformed, well_formed}
use Rattle.sheets.proofs.judge.read_sheet.Goals as goal

pub returns-in_err-sheet : goal.returns-in_err-sheet
returns-in_err-sheet c =
    let p = err_from_is_err_and c.from_residual.result c.from_residual.ensures.1 in
    rw (p.1, p.2, same_cause c.in_err-sheet.ensures.ok_part c.in_err-sheet.ensures.value)
    (malformed c.args.text.now _ refl (sym c.in_err-sheet.ensures.ok_part ∙ c.parse.ensures))

pub returns : goal.returns
returns c = c.judge.ensures ∙ well_formed c.args.text.now _ refl {h = c.in_ok-sheet.sheet} (sym c.in_ok-sheet.ensures.ok_part ∙ c.parse.ensures)
