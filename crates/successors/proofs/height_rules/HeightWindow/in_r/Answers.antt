-- `in_r` tests membership in R: two quick tests of the symbols, then the rotations. Assumes nothing.
use mathlib.Core.Path.{◌≡◌, sym, ◌∙◌}
use native.Mathlib.Omega.{arith}
use borrow.Author.Rules.{rules}
use lib.ListN.{length}
use Rattle.successors.proofs.SetRTests.{in_r_zero, in_r_above, in_r_gap}
use Rattle.successors.proofs.HeightWindows.{head, tail, form}
use Rattle.successors.proofs.height_rules.HeightWindow.in_r.Goals.{Start, then-x-eq0-via-then-x-eq0, then-x-eq0-via-else-x-eq0+then-not-none_above, then-x-eq0-via-else-x-eq0+else-not-none_above+then-not-all_behind}
use Rattle.successors.proofs.height_rules.HeightWindow.in_r.Goals as goal

sixteen : (s : Start) → length s.args.self.w ≡ 16
sixteen s = search rules

pub returns-then-x-eq0 : goal.returns-then-x-eq0
returns-then-x-eq0 c =
    let h = c.args.self in
    let x = c.args.x in
    elim c.then-x-eq0.branch [
      | then-x-eq0-via-then-x-eq0 w ↦ in_r_zero x (tail h) w.if-x-eq0.true
      | then-x-eq0-via-else-x-eq0+then-not-none_above w ↦
          sym (in_r_above x x (tail h) (sym w.none_above.ensures ∙ w.if-not-none_above.true) (omega arith))
      | then-x-eq0-via-else-x-eq0+else-not-none_above+then-not-all_behind w ↦
          sym (in_r_gap (head h) x (tail h) (form h (sixteen (goal.at.returns-then-x-eq0 c).Start)) (sym w.all_behind.ensures ∙ w.if-not-all_behind.true))
    ]
