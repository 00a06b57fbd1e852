-- `give`: the bytes stored, refused, or a short buffer told in its turn. Assumes nothing.
use mathlib.Core.Path.{◌≡◌, refl, sym, ◌∙◌}
use mathlib.Core.Bool.{true≢false}
use Prim.Native.Nat.{◌≤◌}
use native.Mathlib.Omega.{arith}
use borrow.Author.Rules.{rules}
use borrow.Author.Tests.{le-leb}
use lib.ListN.{length, take}
use lib.Seq.{length-take-le}
use Rattle.std.specs.Prelude.{Ok, Err}
use Rattle.std.proofs.lemmas.Result.{IfOk-at_ok}
use Rattle.wko.specs.Calls.{window_given, delivered, written, before_room}
use Rattle.wko.proofs.Cases.{room_enough, room_short, room_told}
use Rattle.wko.proofs.give.Goals.{then-n-out-2, else-n-out-2, in_default-via-in-Ok+else-n-out, in_default-via-in-Err+else-told_first}
use Rattle.wko.proofs.give.Goals as goal

pub returns-in-Ok : goal.returns-in-Ok
unfolding window_given delivered written
returns-in-Ok g c =
    let n = c.args.n in
    let bytes = c.in-Ok.bytes in
    let l : length bytes ≡ g.row.N = search rules in
    let le : n ≤ g.row.N = IfOk-at_ok (λ _. n ≤ g.row.N) c.in-Ok.is c.requires in
    let size : length (take n bytes) ≡ n = length-take-le n bytes (omega arith) in
    rw (c.in-Ok.is, room_enough n (length c.args.out.now) c.if-n-out.true (Ok (take n bytes)), c.copy_from_slice.ensures.after, size)

pub returns-in-Err : goal.returns-in-Err
unfolding window_given delivered written before_room
returns-in-Err g c =
    let n = c.args.n in
    let room = length c.args.out.now in
    elim c.if-n-out-2.branch [
      | then-n-out-2 b ↦ rw (c.in-Err.is, room_enough n room b.if-n-out-2.true (Err c.in-Err.cause), c.refused.ensures)
      | else-n-out-2 b ↦ rw (c.in-Err.is, room_told n room (Err c.in-Err.cause) (sym b.told_first.ensures ∙ sym b.value-is ∙ c.if-told_first.true), c.refused.ensures)
    ]

pub returns-in_default : goal.returns-in_default
unfolding window_given delivered written before_room
returns-in_default g c =
    let n = c.args.n in
    let room = length c.args.out.now in
    elim c.in_default.branch [
      | in_default-via-in-Ok+else-n-out b ↦ rw (b.in-Ok.is, room_short n room b.if-n-out.false (Ok (take n b.in-Ok.bytes)) refl, c.refused-in_default.ensures)
      | in_default-via-in-Err+else-told_first b ↦ elim b.if-n-out-2.branch [
        | then-n-out-2 d ↦ absurd (true≢false (sym (d.value-is ∙ le-leb n room d.if-n-out-2.true) ∙ b.if-told_first.false))
        | else-n-out-2 d ↦ rw (b.in-Err.is, room_short n room d.if-n-out-2.false (Err b.in-Err.cause) (sym d.told_first.ensures ∙ sym d.value-is ∙ b.if-told_first.false), c.refused-in_default.ensures)
      ]
    ]
