-- `Session::other_step`, by the cases of its tests. Assumes nothing.
use mathlib.Core.Bool.{true}
use mathlib.Core.Path.{◌≡◌, refl, sym, ◌∙◌}
use Prim.Native.Nat.{◌<◌}
use native.Mathlib.Omega.{arith}
use Rattle.weak_orders.specs.Window.{is_length}
use Rattle.ranking.specs.Counts.{a}
use Rattle.stepper.specs.Exchange.{has_begun}
use Rattle.weak_orders.proofs.FormTests.{says_length}
use Rattle.stepper.proofs.Begun.{says_begun}
use Rattle.stepper.proofs.Cases.{looked_up, not_begun, if_begun_lem, zero_number, resent, misnumbered, finished}
use Rattle.stepper.proofs.session.Session.other_step.Goals.{Else-not-has_begun}
use Rattle.stepper.proofs.session.Session.other_step.Goals as goal

-- the session has begun, where the first test was passed
begun : (c : Else-not-has_begun) → has_begun c.args.self ≡ true
begun c = sym c.has_begun.ensures ∙ c.if-not-has_begun.false

length-ok : (c : Else-not-has_begun) → is_length c.args.self.n ≡ true
length-ok c =
    let round = ((says_begun c.args.self).to (begun c)).round in
    (says_length _).of (round.low, round.high)

pub returns-then-not-has_begun : goal.returns-then-not-has_begun
returns-then-not-has_begun c =
    c.refuse.ensures ∙ not_begun c.args.self _ (sym c.has_begun.ensures ∙ c.if-not-has_begun.true)

pub returns-then-number-eq0 : goal.returns-then-number-eq0
returns-then-number-eq0 c =
    c.refuse-then-number-eq0.ensures
    ∙ if_begun_lem c.args.self _ (begun (goal.at.returns-then-number-eq0 c).Else-not-has_begun)
    (zero_number c.args.self c.args.number c.if-number-eq0.true)

pub stepped-requires : goal.stepped-requires
stepped-requires c = length-ok (goal.at.stepped-requires c).Else-not-has_begun

pub returns-then-number-self : goal.returns-then-number-self
returns-then-number-self c =
    c.stepped.ensures
    ∙ if_begun_lem c.args.self _ (begun (goal.at.returns-then-number-self c).Else-not-has_begun)
    (resent c.args.self c.args.number c.if-number-eq0.false c.if-number-self.true)

pub returns-then-number-self-2 : goal.returns-then-number-self-2
returns-then-number-self-2 c =
    c.refuse-then-number-self-2.ensures
    ∙ if_begun_lem c.args.self _ (begun (goal.at.returns-then-number-self-2 c).Else-not-has_begun)
    (misnumbered c.args.self c.args.number c.if-number-eq0.false c.if-number-self.false c.if-number-self-2.true)

pub returns : goal.returns
returns c =
    let x = c.args.self in
    let b = begun (goal.at.returns c).Else-not-has_begun in
    let known = (says_begun x).to b in
    let end = looked_up x.n _ known.round.high refl in
    let last : ¬ (x.done < a x.n) = λ lt. c.requires (omega (arith, c.if-number-eq0.false, c.if-number-self-2.false)) (omega arith) in
    c.refuse-2.ensures ∙ if_begun_lem x _ b
    (finished x c.args.number c.if-number-eq0.false c.if-number-self-2.false (omega (arith, known.within, last)))
