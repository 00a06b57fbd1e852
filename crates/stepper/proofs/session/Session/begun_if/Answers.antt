-- `Session::begun_if`: the reply is the one that a begin frame would get. Assumes nothing.
use mathlib.Core.Bool.{◌&&◌}
use mathlib.Core.Path.{◌≡◌, ap, ◌∙◌}
use lib.Dec.{leb}
use borrow.Author.Tests.{ne_eqb, le-leb, lt-leb}
use Rattle.frames.specs.Answer.{accepted}
use Rattle.stepper.specs.Exchange.{is_numbered, begun_if}
use Rattle.stepper.proofs.Cases.{begun_accepted, begun_refused}
use Rattle.stepper.proofs.session.Session.begun_if.Goals.{After-weak_order_count}
use Rattle.stepper.proofs.session.Session.begun_if.Goals as goal

pub returns-then-self-ne1 : goal.returns-then-self-ne1
unfolding begun_if
returns-then-self-ne1 c = rw (ne_eqb c.args.self.begun 1 c.if-self-ne1.true)

-- what is asked behind the reply
asked : (c : After-weak_order_count) → (leb c.args.self.done c.weak_order_count.result && is_numbered c.args.self) ≡ begun_if c.args.self c.args.formed
unfolding accepted
asked c = begun_accepted c.args.self c.args.formed _ c.if-self-ne1.false c.reply_if.ensures _ c.weak_order_count.ensures (rw c.in-Accepted.is)

pub returns-then-self-weak_order_count : goal.returns-then-self-weak_order_count
returns-then-self-weak_order_count c =
    c.is_numbered.ensures ∙ (rw (le-leb _ _ c.if-self-weak_order_count.true) at (asked (goal.at.returns-then-self-weak_order_count c).After-weak_order_count))

pub returns-else-self-weak_order_count : goal.returns-else-self-weak_order_count
returns-else-self-weak_order_count c =
    let past = lt-leb c.args.self.done c.weak_order_count.result c.if-self-weak_order_count.false in
    past ∙ (rw past at (asked (goal.at.returns-else-self-weak_order_count c).After-weak_order_count))

pub returns-in-Refused : goal.returns-in-Refused
unfolding accepted
returns-in-Refused c = begun_refused c.args.self c.args.formed _ c.if-self-ne1.false c.reply_if.ensures (rw c.in-Refused.is)
