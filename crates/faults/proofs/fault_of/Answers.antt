-- `fault_of`: a text that is malformed, or by what becomes of the sheet that it reads as. Assumes nothing.
use mathlib.Core.Path.{refl, ap, ◌∙◌}
use Rattle.std.specs.Prelude.{Some}
use Rattle.faults.proofs.ReadTexts.{unread, accepted, refused}
use Rattle.faults.proofs.fault_of.Goals as goal

pub returns-in_default : goal.returns-in_default
returns-in_default c = ap Some c.malformed.ensures ∙ unread c.args.text.now _ refl c.in_default.ensures

pub returns-in-Ok : goal.returns-in-Ok
returns-in-Ok c = accepted c.args.text.now c.in-Some.ensures c.judge.ensures c.in-Ok.is

pub returns-in-Err : goal.returns-in-Err
returns-in-Err c = ap Some c.refused_for.ensures ∙ refused c.args.text.now c.in-Some.ensures c.judge.ensures c.in-Err.cause c.in-Err.is
