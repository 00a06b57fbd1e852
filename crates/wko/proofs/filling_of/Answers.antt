-- `filling_of`: refused for its length, or the array's answer. Assumes nothing.
use mathlib.Core.Path.{sym, ◌∙◌}
use Rattle.std.proofs.lemmas.Result.{err_from_is_err_and}
use Rattle.weak_orders.proofs.Judged.{accepted_by}
use Rattle.weak_orders.proofs.Tests.{says_eq}
use Rattle.wko.proofs.Cases.{fill_slice, fill_early}
use Rattle.wko.proofs.filling_of.Goals as goal

pub returns-in_err-judge : goal.returns-in_err-judge
returns-in_err-judge c =
    let p = err_from_is_err_and c.from_residual.result c.from_residual.ensures.1 in
    rw (p.1, p.2) (fill_early c.args.n c.args.pattern.now _ (sym c.judge.ensures ∙ c.in_err-judge.was))

pub returns : goal.returns
returns c = let a = c.args in
    let whole = (says_eq _ _).to (accepted_by a.n _ (sym c.judge.ensures ∙ c.in_ok-judge.was)).1 in
    c.fill.ensures ∙ rw c.load.ensures (fill_slice a.n a.pattern.now whole)
