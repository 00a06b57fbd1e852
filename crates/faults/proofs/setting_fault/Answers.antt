-- `setting_fault`: the first part of test 9 that fails. Assumes nothing.
use mathlib.Core.Bool.{true}
use mathlib.Core.Path.{◌≡◌, sym, ap, ◌∙◌}
use mir.Facts.{to_z-of_z}
use mir.Syntax.{w32}
use mir.Val.{SFits}
use borrow.Author.Rules.{rules}
use Rattle.levels.specs.Level.{top_ok}
use Rattle.faults.proofs.setting_fault.Goals.{After-top_ok, Else-not-top_ok}
use Rattle.faults.proofs.setting_fault.Goals as goal

-- what `top_ok` says of the top
top-told : (c : After-top_ok) → c.top_ok.result ≡ top_ok c.args.sheet.top
top-told c =
    let fits : SFits w32 c.args.sheet.top = search rules in
    c.top_ok.ensures ∙ ap top_ok (to_z-of_z fits)

top_in : (c : Else-not-top_ok) → top_ok c.args.sheet.top ≡ true
top_in c =
    let fits : SFits w32 c.args.sheet.top = search rules in
    sym (c.top_ok.ensures ∙ ap top_ok (to_z-of_z fits)) ∙ c.if-not-top_ok.false

pub returns-then-not-top_ok : goal.returns-then-not-top_ok
returns-then-not-top_ok c = rw (sym (top-told (goal.at.returns-then-not-top_ok c).After-top_ok) ∙ c.if-not-top_ok.true)

pub returns-then-not-spacing_ok : goal.returns-then-not-spacing_ok
returns-then-not-spacing_ok c = let t = c.spacing_ok in
    rw (top_in (goal.at.returns-then-not-spacing_ok c).Else-not-top_ok, sym t.ensures ∙ c.if-not-spacing_ok.true)

pub returns : goal.returns
returns c = let t = c.spacing_ok in
    rw (top_in (goal.at.returns c).Else-not-top_ok, sym t.ensures ∙ c.if-not-spacing_ok.false)
