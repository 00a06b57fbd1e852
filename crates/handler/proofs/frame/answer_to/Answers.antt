-- `answer_to` meets its contract: after an accepted frame the bits count all symbols, and the unused bytes are zero. Assumes nothing.
use mathlib.Core.Path.{◌≡◌, ◌∙◌}
use Prim.Native.Nat.{◌≤◌}
use native.Mathlib.Omega.{arith}
use lib.ListN.{length, take}
use Rattle.weak_orders.proofs.Symbols.{height_le}
use Rattle.stepper.specs.Exchange.{answer_to}
use Rattle.handler.proofs.Cases.{same_answer, answer_parts}
use borrow.Author.Rules.{rules}
use Rattle.handler.proofs.frame.answer_to.Goals as goal

pub overflow_cast-different : goal.overflow_cast-different
overflow_cast-different c =
    let s = c.args.x.session in
    let le : c.different-different.result ≤ 31 = rw c.different-different.ensures (height_le (take s.n s.window) 31) in
    record { fits = omega arith }

pub returns : goal.returns
unfolding answer_to
returns c =
    let x = c.args.x in
    let sixteen : length x.session.window ≡ 16 = search rules in
    let many = c.different-different.ensures in
    c.answer_bytes.ensures
    ∙ rw c.round_shown-round.ensures
    (same_answer c.args.second _ x.reply x.session.done _ _ _ _
    (λ t. let (bits, window) = answer_parts x.session sixteen (c.requires t) in (many ∙ bits, window)))
