-- `exchange` meets its contract: without room nothing is written, else the answer over the first forty bytes. Assumes nothing.
use mathlib.Core.Path.{◌≡◌, ap, sym, ◌∙◌}
use native.Mathlib.Omega.{arith}
use lib.ListN.{length}
use lib.Seq.{length-take-le}
use Rattle.stepper.specs.Exchange.{answer_to}
use Rattle.stepper.proofs.Begun.{says_begun}
use Rattle.stepper.proofs.Outcomes.{handle_leaves}
use Rattle.stepper.proofs.Handling.{no_room}
use Rattle.handler.proofs.Cases.{written_over}
use borrow.Author.Rules.{rules}
use Rattle.handler.proofs.exchange.Goals as goal

pub returns-then-answer-lt40 : goal.returns-then-answer-lt40
returns-then-answer-lt40 c =
    ap (λ x. (x, c.args.answer.now)) c.refuse.ensures
    ∙ sym (no_room c.args.session c.args.frame.now c.args.answer.now (omega arith))

pub answer_to-bytes-requires : goal.answer_to-bytes-requires
answer_to-bytes-requires c =
    let sixteen : length c.args.session.window ≡ 16 = search rules in
    rw c.handle-x.ensures (λ t. (says_begun _).of (handle_leaves c.args.session sixteen c.args.frame.now t))

pub copy_from_slice-requires : goal.copy_from_slice-requires
copy_from_slice-requires c =
    let bytes : length c.answer_to-bytes.result ≡ 40 = search rules in
    rw bytes (length-take-le 40 c.args.answer.now (omega arith))

pub returns : goal.returns
returns c =
    rw c.copy_from_slice.ensures.after
    (written_over c.args.session c.args.frame.now c.args.answer.now _ _ (omega arith) c.handle-x.ensures
    (c.answer_to-bytes.ensures ∙ ap (λ v. answer_to v c.handle-x.result) c.is_second-second.ensures))
