-- `put_line`: the newest symbol, its level, and the window. Assumes nothing.
use native.Mathlib.Omega.{arith}
use mathlib.Core.Path.{◌≡◌, refl, ap, subst, ◌∙◌}
use Prim.Native.Nat.{◌-◌}
use lib.ListN.{length, get_or, take}
use Rattle.weak_orders.proofs.FormTests.{says_length}
use Rattle.printing.specs.Printing.{line_text, last_line}
use mir.Facts.{to_z-of_z}
use mir.Syntax.{w32}
use mir.Val.{to_z, of_z}
use borrow.Author.Rules.{sfits_of}
use Rattle.printing.proofs.Filling.{last_line_lem}
use Rattle.printing.specs.Writing.{Wrote}
use borrow.Author.Rules.{rules}
use Rattle.printing.proofs.put_line.Goals.{After-level-level}
use Rattle.printing.proofs.put_line.Goals as goal

-- the line that `put_row` is asked for
line : (c : After-level-level) → let p = c.args.p in
    line_text p.done (get_or p.round.window (p.round.n - 1) 0) (to_z w32 (of_z w32 c.level-level.result)) (take p.round.n p.round.window) ≡ last_line p
line c =
    let s = c in
    let long : length s.args.p.round.window ≡ 16 = search rules in
    last_line_lem s.args.p s.requires.0 long _ _ refl (to_z-of_z {w = w32} (sfits_of {w = w32} c.level-level.type_inv) ∙ c.level-level.ensures)

pub overflow_sub-symbol : goal.overflow_sub-symbol
overflow_sub-symbol c = ((says_length _).to c.requires.0).0

pub bounds-w-n : goal.bounds-w-n
bounds-w-n c = omega (arith, (says_length _).to c.requires.0)

pub put_row-requires : goal.put_row-requires
put_row-requires c = let s = c in
    let (pos, few) = (says_length s.args.p.round.n).to s.requires.0 in
    (pos, few, omega (arith, s.requires.1, ap length (line (goal.at.put_row-requires c).After-level-level)))

pub returns : goal.returns
returns c = let r = c in
    let s = r in
    subst (λ t. Wrote s.args.out.now s.args.at t r.put_row.result r.put_row.new.out) (line (goal.at.returns c).After-level-level) r.put_row.ensures
