use borrow.Author.Rules.{rules}
use native.Mathlib.Omega.{arith}
use mathlib.Core.Path.{◌≡◌}
use Prim.Native.Nat.{◌+◌, ◌≤◌}
use lib.ListN.{length, take, drop}
use Rattle.decimals.specs.Text.{commaed}
use Rattle.printing.proofs.Written.{wrote_none, wrote_then, wrote_length}
use Rattle.printing.proofs.WrittenLists.{no_others, others_le, commaed-next, others_room}
use Rattle.printing.proofs.writer.put_others.Goals.{At-loop-i}
use Rattle.printing.proofs.writer.put_others.Goals as goal

-- what is written so far had room, and the slice keeps its length
room : (c : At-loop-i) →
    c.args.at + length (commaed (drop 1 (take c.loop-i.i c.args.w))) ≤ length c.args.out.now
room c =
    let a = c in
    let long : length a.args.w ≡ 16 = search rules in
    omega (arith, a.requires.2, others_le a.args.w c.loop-i.i a.args.n (omega arith) (omega arith) (omega arith))

size : (c : At-loop-i) → length c.loop-i.out ≡ length c.args.out.now
size c = wrote_length c.loop-i.invariant (room c)

pub loop-i-init : goal.loop-i-init
loop-i-init c = rw (no_others c.args.w) (wrote_none _ _)

pub put_next-next-requires : goal.put_next-next-requires
put_next-next-requires c = let l = (goal.at.put_next-next-requires c).At-loop-i in
    let a = l in
    let long : length a.args.w ≡ 16 = search rules in
    omega (
      arith,
      a.requires.2,
      others_room a.args.w l.loop-i.i (omega arith) (omega arith) a.args.n c.loop-i-test.true (omega arith),
      l.loop-i.invariant.end,
      size l,
    )

pub loop-i-preserved : goal.loop-i-preserved
loop-i-preserved c = let l = (goal.at.loop-i-preserved c).At-loop-i in
    let a = l in
    let n = c.put_next-next in
    let long : length a.args.w ≡ 16 = search rules in
    let both = wrote_then l.loop-i.invariant n.ensures (room l) in
    rw (commaed-next a.args.w l.loop-i.i (omega arith) (omega arith)) at both

pub shape_of-out : goal.shape_of-out
shape_of-out c = size (goal.at.shape_of-out c).At-loop-i

pub returns : goal.returns
returns c = let l = c in
    let e : l.loop-i.i ≡ l.args.n = omega arith in
    rw e at l.loop-i.invariant
