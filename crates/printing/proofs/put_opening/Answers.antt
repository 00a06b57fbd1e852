-- `put_opening`: no room; the heading; or the refusal and its number. Assumes nothing.
use borrow.Author.Tests.{lt-ltb, le-ltb}
use Rattle.printing.specs.Printing.{heading, refused_line, opening, opening_text}
use Rattle.printing.proofs.Filling.{wrote_over, wrote_front}
use native.Mathlib.Omega.{arith}
use mathlib.Core.List.{[], ◌∷◌, ◌++◌}
use Prim.Native.Nat.{◌+◌, ◌^◌, ◌≤◌, ◌<◌}
use lib.ListN.{length, length-append}
use Rattle.decimals.specs.Text.{decimal}
use Rattle.decimals.proofs.Digits.{decimal_width}
use Rattle.printing.specs.Writing.{Wrote}
use Rattle.printing.proofs.Written.{counts, wrote_length, wrote_then, room_front, room_rest}
use borrow.Author.Rules.{rules}
use Rattle.printing.proofs.put_opening.Goals.{After-put_front-at}
use Rattle.printing.proofs.put_opening.Goals as goal

-- the line refused is written, and the number has room behind it
refused : (c : After-put_front-at) → Wrote c.args.out.now 0 refused_line c.put_front-at.result c.put_front-at.new.out
refused c =
    let d = c.put_front-at in
    wrote_front refused_line c.args.out.now d.new.out d.result d.ensures.at d.ensures.written

room : (c : After-put_front-at) → 0 + length (refused_line ++ (decimal c.from-number.result ++ (10 ∷ []))) ≤ length c.args.out.now
room c =
    let v = c.from-number.result in
    let small : v < 2 ^ 8 = search rules in
    omega (
      arith,
      c.if-out-lt-LONGEST.false,
      decimal_width 2 v (omega arith),
      length-append refused_line (decimal v ++ (10 ∷ [])),
      length-append (decimal v) (10 ∷ []),
    )

pub returns-then-out-lt-LONGEST : goal.returns-then-out-lt-LONGEST
unfolding opening
returns-then-out-lt-LONGEST c = record {
  out_after = rw (lt-ltb _ 128 c.if-out-lt-LONGEST.true);
  within = (search rules, search rules);
}

pub put_decimal_field-requires : goal.put_decimal_field-requires
put_decimal_field-requires c =
    let k = (goal.at.put_decimal_field-requires c).After-put_front-at in
    rw c.from.ensures (room_rest (refused k) (decimal c.from-number.result ++ (10 ∷ [])) (room k))

pub returns-in-Ok : goal.returns-in-Ok
unfolding opening opening_text
returns-in-Ok c =
    let d = c.put_front in
    let w = wrote_front heading c.args.out.now d.new.out d.result d.ensures.at d.ensures.written in
    let long = c.if-out-lt-LONGEST.false in
    record {
      out_after = rw (c.in-Ok.is, le-ltb _ 128 long) (wrote_over w);
      within = counts _ d.result (omega (arith, w.end, wrote_length w (omega arith)));
    }

pub returns-in-Err : goal.returns-in-Err
unfolding opening opening_text
returns-in-Err c =
    let k = (goal.at.returns-in-Err c).After-put_front-at in
    let v = c.from-number.result in
    let both = wrote_then (refused k) (rw c.from.ensures at c.put_decimal_field.ensures) (room_front 0 _ refused_line (decimal v ++ (10 ∷ [])) (room k)) in
    let short = le-ltb _ 128 c.if-out-lt-LONGEST.false in
    record {
      out_after = rw (c.in-Err.is, short, ← c.from-number.ensures) (wrote_over both);
      within = counts _ c.put_decimal_field.result (omega (arith, both.end, room k, wrote_length both (room k)));
    }
