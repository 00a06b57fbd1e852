use native.Mathlib.Omega.{arith}
use mathlib.Core.Bool.{true}
use mathlib.Core.Path.{◌≡◌, sym, ap, ◌∙◌}
use lib.ListN.{drop}
use mir.Facts.{to_z-of_z}
use mir.Syntax.{w32}
use mir.Val.{SFits}
use borrow.Author.Rules.{rules}
use Rattle.decimals.specs.Held.{taken}
use Rattle.decimals.specs.Reading.{found}
use Rattle.decimals.proofs.Answers.{found_taken, not_as}
use Rattle.decimals.proofs.Cursors.{part_from}
use Rattle.levels.specs.Table.{level_allowed}
use Rattle.levels.proofs.Tables.{allowed_fits}
use Rattle.level_files.specs.LevelFile.{level_line, line_of}
use Rattle.level_files.proofs.LevelLines.{read_none, read_all, read_missing, read_refused, line_within, read_on}
use Rattle.level_files.proofs.level_lines.Goals.{After-level_allowed, Else-not-level_allowed, In_ok-line}
use Rattle.level_files.proofs.level_lines.Goals as goal

-- what was found, where a line was
read : (c : In_ok-line) → line_of c.loop-d.d (level_line (drop c.loop-d.at c.args.s.now)) ≡ found c.in_ok-line.line.value c.in_ok-line.line.len
read c =
    let l = c.loop-d in
    found_taken _ (c.in_ok-line.ensures ∙ ap (λ t. taken (line_of l.d (level_line t))) (part_from c.args.s.now l.at))

allowed : (c : Else-not-level_allowed) → level_allowed c.in_ok-line.line.value ≡ true
allowed c =
    let h : SFits w32 c.in_ok-line.line.value = search rules in
    rw (to_z-of_z h) at (sym c.if-not-level_allowed.ensures)

pub loop-d-init : goal.loop-d-init
loop-d-init c = read_none _

pub returns-in_err-line : goal.returns-in_err-line
returns-in_err-line c =
    let l = c.loop-d in
    let s = c.args.s.now in
    let e = not_as (λ x. x) _ (c.in_err-line.ensures ∙ ap (λ t. taken (line_of l.d (level_line t))) (part_from s l.at)) in
    c.from_residual.ensures ∙ sym (read_missing s l.table l.at l.d l.invariant c.loop-d-test.true e)

pub returns-then-not-level_allowed : goal.returns-then-not-level_allowed
returns-then-not-level_allowed c =
    let l = c.loop-d in
    let h : SFits w32 c.in_ok-line.line.value = search rules in
    let no-level = rw (to_z-of_z h) at (sym c.if-not-level_allowed.ensures) in
    sym (read_refused c.args.s.now l.table l.at l.d l.invariant c.loop-d-test.true (read (goal.at.returns-then-not-level_allowed c).In_ok-line) no-level)

pub overflow_cast-table : goal.overflow_cast-table
overflow_cast-table c =
    let h : SFits w32 c.in_ok-line.line.value = search rules in
    rw (to_z-of_z h) (allowed_fits _ (allowed (goal.at.overflow_cast-table c).Else-not-level_allowed))

pub overflow_add-at : goal.overflow_add-at
overflow_add-at c =
    let l = c.loop-d in
    record { fits = omega (arith, line_within c.args.s.now l.table l.at l.d l.invariant c.loop-d-test.true (read (goal.at.overflow_add-at c).In_ok-line)) }

pub loop-d-preserved : goal.loop-d-preserved
loop-d-preserved c =
    let here = goal.at.loop-d-preserved c in
    let l = c.loop-d in
    let h : SFits w32 c.in_ok-line.line.value = search rules in
    let is = allowed here.Else-not-level_allowed in
    rw (to_z-of_z h, to_z-of_z (allowed_fits c.in_ok-line.line.value is))
    (read_on c.args.s.now l.table l.at l.d l.invariant c.loop-d-test.true (read here.In_ok-line) is)

pub returns : goal.returns
returns c = let l = c.loop-d in
    sym (read_all _ l.table l.at l.d l.invariant c.loop-d-test.false)
