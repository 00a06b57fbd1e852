-- `level_line`: the level stands where the number ends, and the number is that of the line. Assumes nothing.
use native.Mathlib.Omega.{arith}
use mathlib.Core.Path.{◌≡◌, refl}
use Prim.Native.Nat.{◌+◌, ◌≤◌}
use lib.ListN.{length}
use mir.Facts.{to_z-of_z}
use mir.Syntax.{w32}
use mir.Val.{SFits}
use borrow.Author.Tests.{eq-eqb, ne_eqb}
use borrow.Author.Rules.{rules}
use Rattle.decimals.specs.Reading.{found, ended, number, signed_number}
use Rattle.decimals.proofs.Answers.{field-missing, field-other, field_taken, both-none, both_one, both_found}
use Rattle.decimals.proofs.Cursors.{part_from}
use Rattle.decimals.proofs.Readers.{takes_within, reads_number_until}
use Rattle.level_files.specs.LevelFile.{level_line, line_of}
use Rattle.level_files.proofs.LevelTexts.{reads_line}
use Rattle.level_files.proofs.level_line.Goals.{In_ok-number-2, In_ok-signed_number, In_ok-level}
use Rattle.level_files.proofs.level_line.Goals as goal

-- what the number is, and that it ends within the text
read₁ : (c : In_ok-number-2) → ended number 32 c.args.s.now ≡ found c.in_ok-number-2.number.value c.in_ok-number-2.number.len
read₁ c = field_taken number 32 refl c.in_ok-number.ensures c.in_ok-number-2.ensures

within : (c : In_ok-number-2) → c.in_ok-number-2.number.len ≤ length c.args.s.now
within c = takes_within ((reads_number_until 32 refl).sound c.args.s.now _ _ (read₁ c)).0

-- the line with the level
line : (c : In_ok-level) → ended number 32 c.args.s.now ≡ found c.in_ok-number-2.number.value c.in_ok-number-2.number.len →
    level_line c.args.s.now ≡ found (c.in_ok-number-2.number.value, c.in_ok-level.level.value) (c.in_ok-number-2.number.len + c.in_ok-level.level.len)
unfolding level_line
line c e =
    both_found (ended number 32) (ended signed_number 10) c.args.s.now e
    (field_taken signed_number 10 (part_from c.args.s.now c.in_ok-number-2.number.len) c.in_ok-signed_number.ensures c.in_ok-level.ensures)

pub returns-in_err-number : goal.returns-in_err-number
unfolding level_line line_of
returns-in_err-number c =
    rw (c.from_residual.ensures, both-none (ended number 32) (ended signed_number 10) c.args.s.now (field-missing (λ x. x) number 32 refl c.in_err-number.ensures))

pub returns-in_err-number-2 : goal.returns-in_err-number-2
unfolding level_line line_of
returns-in_err-number-2 c =
    let e = field-other (λ x. x) number 32 refl c.in_ok-number.ensures c.in_err-number-2.ensures in
    rw (c.from_residual-in_err-number-2.ensures, both-none (ended number 32) (ended signed_number 10) c.args.s.now e)

pub slice_bounds-rest-count : goal.slice_bounds-rest-count
slice_bounds-rest-count c = within (goal.at.slice_bounds-rest-count c).In_ok-number-2

pub slice_bounds-rest-start : goal.slice_bounds-rest-start
slice_bounds-rest-start c = within (goal.at.slice_bounds-rest-start c).In_ok-number-2

pub returns-in_err-signed_number : goal.returns-in_err-signed_number
unfolding level_line line_of
returns-in_err-signed_number c =
    let first = read₁ (goal.at.returns-in_err-signed_number c).In_ok-number-2 in
    let e = field-missing (λ x. x) signed_number 10 (part_from c.args.s.now c.in_ok-number-2.number.len) c.in_err-signed_number.ensures in
    rw (c.from_residual-in_err-signed_number.ensures, both_one (ended number 32) (ended signed_number 10) c.args.s.now first e)

pub returns-in_err-level : goal.returns-in_err-level
unfolding level_line line_of
returns-in_err-level c =
    let first = read₁ (goal.at.returns-in_err-level c).In_ok-number-2 in
    let e = field-other (λ x. x) signed_number 10 (part_from c.args.s.now c.in_ok-number-2.number.len) c.in_ok-signed_number.ensures c.in_err-level.ensures in
    rw (c.from_residual-in_err-level.ensures, both_one (ended number 32) (ended signed_number 10) c.args.s.now first e)

pub returns-then-number-d : goal.returns-then-number-d
unfolding line_of
returns-then-number-d c =
    let here = goal.at.returns-then-number-d c in
    rw (line here.In_ok-level (read₁ here.In_ok-number-2), ne_eqb _ _ c.if-number-d.true)

pub overflow_add-result : goal.overflow_add-result
overflow_add-result c =
    let here = goal.at.overflow_add-result c in
    record { fits = omega (arith, takes_within (reads_line.sound c.args.s.now _ _ (line here.In_ok-level (read₁ here.In_ok-number-2))).0) }

pub returns : goal.returns
unfolding line_of
returns c =
    let here = goal.at.returns c in
    let h : SFits w32 c.in_ok-level.level.value = search rules in
    rw (line here.In_ok-level (read₁ here.In_ok-number-2), eq-eqb _ _ c.if-number-d.false, to_z-of_z h)
