-- `Session::stepped` meets its contract: the last of n symbols is the newest. Assumes nothing.
use mathlib.Core.Path.{◌≡◌}
use native.Mathlib.Omega.{arith}
use lib.ListN.{length}
use mir.Facts.{to_z-of_z}
use mir.Syntax.{w32}
use mir.Val.{SFits}
use borrow.Author.Rules.{rules, sfits_of}
use Rattle.frames.specs.Answer.{step_reply}
use Rattle.stepper.specs.Exchange.{stepped}
use Rattle.weak_orders.proofs.FormTests.{says_length}
use Rattle.stepper.proofs.Cases.{newest_at}
use Rattle.stepper.proofs.session.Session.stepped.Goals as goal

pub overflow_sub-symbol : goal.overflow_sub-symbol
overflow_sub-symbol c = ((says_length _).to c.requires).0

pub bounds-self-self : goal.bounds-self-self
bounds-self-self c = omega (arith, (says_length _).to c.requires)

pub returns : goal.returns
unfolding stepped step_reply
returns c =
    let s = c.args.self in
    let (low, high) = (says_length s.n).to c.requires in
    let l : length s.window ≡ 16 = search rules in
    let level : SFits w32 c.level-level.result = sfits_of c.level-level.type_inv in
    rw (to_z-of_z level, c.level-level.ensures, newest_at s.window s.n low (omega arith))
