-- `fields`: each part stands where the one before it ends. Assumes nothing.
use native.Mathlib.Omega.{arith}
use mathlib.Core.Path.{◌≡◌, ap, ◌∙◌}
use Prim.Native.Nat.{◌+◌}
use lib.ListN.{drop}
use mir.Facts.{to_z-of_z}
use mir.Syntax.{w32}
use mir.Val.{SFits}
use borrow.Author.Rules.{rules}
use Rattle.decimals.specs.Held.{taken, numbers_of}
use Rattle.decimals.specs.Reading.{found, numbers}
use Rattle.decimals.proofs.Answers.{found_taken, not_as, field-missing, field-other, field_found}
use Rattle.decimals.proofs.Cursors.{part_from}
use Rattle.sheets.specs.Sheet.{length_and_rule, top_and_spacing}
use Rattle.sheets.proofs.SheetFields.{no_first, first_end, no_second, second_end, no_start, start_end, all-fields, fields_taken}
use Rattle.sheets.proofs.sheet.fields.Goals.{In_ok-first, In_ok-second, In_ok-start}
use Rattle.sheets.proofs.sheet.fields.Goals as goal

-- what each part is, and that it ends within the text
read₁ : (c : In_ok-first) → length_and_rule c.args.s.now ≡ found c.in_ok-first.first.value c.in_ok-first.first.len
read₁ c = found_taken _ c.in_ok-first.ensures

read₂ : (c : In_ok-second) → top_and_spacing (drop c.in_ok-first.first.len c.args.s.now) ≡ found c.in_ok-second.second.value c.in_ok-second.second.len
read₂ c = found_taken _ (c.in_ok-second.ensures ∙ ap (λ t. taken (top_and_spacing t)) (part_from c.args.s.now c.in_ok-first.first.len))

pub returns-in_err-first : goal.returns-in_err-first
returns-in_err-first c =
    let s = c.args.s.now in
    rw (c.from_residual.ensures, no_first s (not_as (λ x. x) (length_and_rule s) c.in_err-first.ensures))

pub slice_bounds-top_and_spacing-count : goal.slice_bounds-top_and_spacing-count
slice_bounds-top_and_spacing-count c = first_end c.args.s.now (read₁ (goal.at.slice_bounds-top_and_spacing-count c).In_ok-first)

pub slice_bounds-top_and_spacing-start : goal.slice_bounds-top_and_spacing-start
slice_bounds-top_and_spacing-start c = first_end c.args.s.now (read₁ (goal.at.slice_bounds-top_and_spacing-start c).In_ok-first)

pub overflow_add-end : goal.overflow_add-end
overflow_add-end c =
    let here = goal.at.overflow_add-end c in
    record { fits = omega (arith, second_end c.args.s.now (read₁ here.In_ok-first) (read₂ here.In_ok-second)) }

pub slice_bounds-rest-count : goal.slice_bounds-rest-count
slice_bounds-rest-count c =
    let here = goal.at.slice_bounds-rest-count c in
    second_end c.args.s.now (read₁ here.In_ok-first) (read₂ here.In_ok-second)

pub slice_bounds-rest-start : goal.slice_bounds-rest-start
slice_bounds-rest-start c =
    let here = goal.at.slice_bounds-rest-start c in
    second_end c.args.s.now (read₁ here.In_ok-first) (read₂ here.In_ok-second)

pub returns-in_err-second : goal.returns-in_err-second
returns-in_err-second c =
    let s = c.args.s.now in
    let first = read₁ (goal.at.returns-in_err-second c).In_ok-first in
    let e = not_as (λ x. x) _ (c.in_err-second.ensures ∙ ap (λ t. taken (top_and_spacing t)) (part_from s c.in_ok-first.first.len)) in
    rw (c.from_residual-in_err-second.ensures, no_second s first e)

pub returns-in_err-numbers : goal.returns-in_err-numbers
returns-in_err-numbers c =
    let s = c.args.s.now in
    let here = goal.at.returns-in_err-numbers c in
    let e = field-missing numbers_of (numbers 16) 10 (part_from s (c.in_ok-first.first.len + c.in_ok-second.second.len)) c.in_err-numbers.ensures in
    rw (c.from_residual-in_err-numbers.ensures, no_start s (read₁ here.In_ok-first) (read₂ here.In_ok-second) e)

pub returns-in_err-start : goal.returns-in_err-start
returns-in_err-start c =
    let s = c.args.s.now in
    let here = goal.at.returns-in_err-start c in
    let e = field-other numbers_of (numbers 16) 10 (part_from s (c.in_ok-first.first.len + c.in_ok-second.second.len)) c.in_ok-numbers.ensures c.in_err-start.ensures in
    rw (c.from_residual-in_err-start.ensures, no_start s (read₁ here.In_ok-first) (read₂ here.In_ok-second) e)

pub overflow_add-result : goal.overflow_add-result
overflow_add-result c =
    let s = c.args.s.now in
    let here = goal.at.overflow_add-result c in
    let part = part_from s (c.in_ok-first.first.len + c.in_ok-second.second.len) in
    let (_, e, _) = field_found numbers_of (numbers 16) 10 part c.in_ok-numbers.ensures c.in_ok-start.ensures in
    record { fits = omega (arith, start_end s (read₁ here.In_ok-first) (read₂ here.In_ok-second) e) }

pub returns : goal.returns
returns c =
    let s = c.args.s.now in
    let here = goal.at.returns c in
    let part = part_from s (c.in_ok-first.first.len + c.in_ok-second.second.len) in
    let (start, e, held) = field_found numbers_of (numbers 16) 10 part c.in_ok-numbers.ensures c.in_ok-start.ensures in
    let all = all-fields s (read₁ here.In_ok-first) (read₂ here.In_ok-second) e in
    let h : SFits w32 c.in_ok-second.second.value.0 = search rules in
    rw (to_z-of_z h) (fields_taken s c.in_ok-start.start.value all held)
