-- `Session::next_step`: the session has begun just where there is a symbol, and then it is the rule's. Assumes nothing.
use mathlib.Core.Bool.{true}
use mathlib.Core.Path.{◌≡◌, refl, sym, ap, ◌∙◌}
use native.Mathlib.Omega.{arith}
use lib.ListN.{length, take}
use Rattle.weak_orders.specs.Window.{is_length}
use Rattle.successors.specs.Rules.{rule_of}
use Rattle.stepper.specs.Exchange.{has_begun, onward, stepped}
use Rattle.stepper.proofs.Begun.{says_begun}
use Rattle.stepper.proofs.Cases.{looked_up, not_begun, if_begun_lem, steps, not_begun_if, begun_symbol, begun_no_symbol}
use borrow.Author.Rules.{rules}
use Rattle.stepper.proofs.session.Session.next_step.Goals.{In-Ok}
use Rattle.stepper.proofs.session.Session.next_step.Goals as goal

-- a symbol: the session has begun, and the symbol is the rule's
found : (c : In-Ok) →
    let s = c.args.self in
    (has_begun s ≡ true) × (is_length s.n ≡ true) × (c.in-Ok.symbol ≡ rule_of s.rule (take s.n s.window))
found c =
    let sixteen : length c.args.self.window ≡ 16 = search rules in
    begun_symbol c.args.self sixteen (sym c.begun_if.ensures ∙ c.if-not-begun_if.false)
    (sym c.next_symbol.ensures ∙ c.in-Ok.is)

pub returns-then-not-begun_if : goal.returns-then-not-begun_if
returns-then-not-begun_if c =
    c.refuse.ensures ∙ not_begun c.args.self _ (not_begun_if c.args.self (sym c.begun_if.ensures ∙ c.if-not-begun_if.true))

pub onward-requires : goal.onward-requires
onward-requires c = let (begun, long, symbol) = found (goal.at.onward-requires c).In-Ok in (long, symbol, c.requires.0)

pub stepped-requires : goal.stepped-requires
unfolding onward
stepped-requires c =
    let (begun, long, symbol) = found (goal.at.stepped-requires c).In-Ok in rw c.onward.ensures long

pub returns-in-Ok : goal.returns-in-Ok
returns-in-Ok c =
    let x = c.args.self in
    let (begun, long, symbol) = found (goal.at.returns-in-Ok c).In-Ok in
    let end = looked_up x.n _ ((says_begun x).to begun).round.high refl in
    let (next, more) = c.requires in
    c.stepped.ensures ∙ ap stepped c.onward.ensures
    ∙ if_begun_lem x _ begun (steps x c.args.number (λ e. omega arith) (omega arith) (λ e. omega arith))

pub returns-in-Err : goal.returns-in-Err
returns-in-Err c =
    let sixteen : length c.args.self.window ≡ 16 = search rules in
    c.refuse-in-Err.ensures
    ∙ not_begun c.args.self _ (begun_no_symbol c.args.self sixteen (sym c.next_symbol.ensures ∙ c.in-Err.is))
