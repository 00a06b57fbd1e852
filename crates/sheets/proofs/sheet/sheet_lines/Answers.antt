-- `sheet_lines`: the title line as it stands, and the fields behind it. Assumes nothing.
use native.Mathlib.Omega.{arith}
use mathlib.Core.Bool.{true}
use mathlib.Core.Path.{◌≡◌, sym, ap, ◌∙◌}
use lib.ListN.{drop, length-drop}
use Rattle.std.specs.Prelude.{Some}
use Rattle.decimals.specs.Held.{taken_as}
use Rattle.decimals.proofs.Cursors.{part_from}
use Rattle.sheets.specs.Sheet.{has_title, fields}
use Rattle.sheets.specs.Held.{sheet_held}
use Rattle.sheets.proofs.SheetLines.{fields_held, title_long, other_title, same_title, second-missing, second_found, second_within}
use Rattle.sheets.proofs.sheet.sheet_lines.Goals.{In_ok-second, Else-not-has_title}
use Rattle.sheets.proofs.sheet.sheet_lines.Goals as goal

-- the title line is there, and is 25 bytes
titled : (c : Else-not-has_title) → has_title c.args.text.now ≡ true
titled c = sym c.if-not-has_title.ensures

-- what `fields` read behind it
second : (c : In_ok-second) → Some c.in_ok-second.second ≡ taken_as fields_held (fields (drop 25 c.args.text.now))
second c = c.in_ok-second.ensures ∙ ap (λ t. taken_as fields_held (fields t)) (part_from c.args.text.now 25)

pub returns-then-not-has_title : goal.returns-then-not-has_title
returns-then-not-has_title c = rw (other_title c.args.text.now (sym c.if-not-has_title.ensures))

pub slice_bounds-fields-count : goal.slice_bounds-fields-count
slice_bounds-fields-count c = title_long _ (titled c)

pub slice_bounds-fields-start : goal.slice_bounds-fields-start
slice_bounds-fields-start c = title_long _ (titled c)

pub returns-in_err-second : goal.returns-in_err-second
returns-in_err-second c =
    let s = c.args.text.now in
    let e = second-missing (fields (drop 25 s)) (c.in_err-second.ensures ∙ ap (λ t. taken_as fields_held (fields t)) (part_from s 25)) in
    rw (c.from_residual.ensures, same_title s (titled (goal.at.returns-in_err-second c).Else-not-has_title), e)

pub overflow_add-result : goal.overflow_add-result
overflow_add-result c =
    let here = goal.at.overflow_add-result c in
    let s = c.args.text.now in
    record { fits = omega (arith, second_within (drop 25 s) (second here.In_ok-second), length-drop 25 s, title_long _ (titled here.Else-not-has_title)) }

pub returns : goal.returns
returns c =
    let here = goal.at.returns c in
    second_found _ (second here.In_ok-second) ∙ ap (taken_as sheet_held) (sym (same_title _ (titled here.Else-not-has_title)))
