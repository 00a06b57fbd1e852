-- `read_table`: too long, no first line, or what stands behind it is not just a table; or the table. Assumes nothing.
use native.Mathlib.Omega.{arith}
use mathlib.Core.Bool.{true}
use mathlib.Core.Path.{◌≡◌, sym, ap, ◌∙◌}
use Prim.Native.Nat.{◌+◌, ◌≤◌}
use lib.ListN.{length, drop}
use borrow.Author.Tests.{eq-eqb, ne_eqb}
use Rattle.std.specs.Prelude.{Some}
use Rattle.decimals.specs.Reading.{begins_with}
use Rattle.decimals.proofs.Cursors.{begins_long, part_from}
use Rattle.level_files.specs.LevelFile.{title_line, levels}
use Rattle.level_files.specs.Held.{lines_of}
use Rattle.level_files.proofs.LevelFiles.{file_long, other_title, no_lines, some_lines}
use Rattle.level_files.proofs.read_table.Goals.{Else-not-begins_with, In_ok-lines}
use Rattle.level_files.proofs.read_table.Goals as goal

titled : (c : Else-not-begins_with) → begins_with title_line c.args.file.now ≡ true
titled c = sym c.begins_with.ensures ∙ c.if-not-begins_with.false

long : (c : Else-not-begins_with) → 8 ≤ length c.args.file.now
long c = begins_long title_line c.args.file.now (titled c)

-- the lines behind the first one
lines : (c : In_ok-lines) → Some c.in_ok-lines.lines ≡ lines_of (levels 16 0 (drop 8 c.args.file.now))
lines c = c.in_ok-lines.ensures ∙ ap (λ t. lines_of (levels 16 0 t)) (part_from c.args.file.now 8)

pub returns-then-file-gt512 : goal.returns-then-file-gt512
returns-then-file-gt512 c = rw (file_long c.args.file.now c.if-file-gt512.true)

pub returns-then-not-begins_with : goal.returns-then-not-begins_with
returns-then-not-begins_with c =
    rw (other_title c.args.file.now c.if-file-gt512.false (sym c.begins_with.ensures ∙ c.if-not-begins_with.true))

pub slice_bounds-text-count : goal.slice_bounds-text-count
slice_bounds-text-count c = long (goal.at.slice_bounds-text-count c).Else-not-begins_with

pub slice_bounds-text-start : goal.slice_bounds-text-start
slice_bounds-text-start c = long (goal.at.slice_bounds-text-start c).Else-not-begins_with

pub returns-in_err-lines : goal.returns-in_err-lines
returns-in_err-lines c =
    let s = c.args.file.now in
    let begun = titled (goal.at.returns-in_err-lines c).Else-not-begins_with in
    let e = c.in_err-lines.ensures ∙ ap (λ t. lines_of (levels 16 0 t)) (part_from s 8) in
    rw (c.from_residual.ensures, no_lines s c.if-file-gt512.false begun e)

pub returns-then-lines-text : goal.returns-then-lines-text
returns-then-lines-text c =
    let here = goal.at.returns-then-lines-text c in
    let s = c.args.file.now in
    let l = c.in_ok-lines.lines in
    let part : ¬ (8 + l.len ≡ length s) = omega (arith, long here.Else-not-begins_with) in
    rw (some_lines s c.if-file-gt512.false (titled here.Else-not-begins_with) l (lines here.In_ok-lines), ne_eqb _ _ part)

pub returns-then-not-falls : goal.returns-then-not-falls
returns-then-not-falls c =
    let here = goal.at.returns-then-not-falls c in
    let s = c.args.file.now in
    let l = c.in_ok-lines.lines in
    let whole : 8 + l.len ≡ length s = omega (arith, long here.Else-not-begins_with) in
    rw (some_lines s c.if-file-gt512.false (titled here.Else-not-begins_with) l (lines here.In_ok-lines), eq-eqb _ _ whole, sym c.if-not-falls.ensures)

pub returns : goal.returns
returns c =
    let here = goal.at.returns c in
    let s = c.args.file.now in
    let l = c.in_ok-lines.lines in
    let whole : 8 + l.len ≡ length s = omega (arith, long here.Else-not-begins_with) in
    rw (some_lines s c.if-file-gt512.false (titled here.Else-not-begins_with) l (lines here.In_ok-lines), eq-eqb _ _ whole, sym c.if-not-falls.ensures)
