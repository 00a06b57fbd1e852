-- `count`: refused, or the list's entry. Assumes nothing.
use mathlib.Core.Bool.{true}
use mathlib.Core.Path.{◌≡◌, sym, ap, ◌∙◌}
use Rattle.std.specs.Prelude.{Ok}
use Rattle.weak_orders.specs.Window.{is_length}
use Rattle.ranking.specs.Answers.{counted}
use Rattle.ranking.proofs.Answered.{count_of}
use Rattle.ranking.proofs.count.Goals as goal

pub returns-then-not-is_length : goal.returns-then-not-is_length
unfolding counted
returns-then-not-is_length c = let l = c.is_length in
    rw (sym l.ensures ∙ c.if-not-is_length.true)

pub returns : goal.returns
unfolding counted
returns c = let r = c in
    let n = r.args.n in
    let long : is_length n ≡ true = sym r.is_length.ensures ∙ r.if-not-is_length.false in
    rw long (ap Ok (count_of n long _ c.weak_order_count.ensures))
