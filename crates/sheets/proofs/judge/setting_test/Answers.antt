-- `setting_test`: top and spacing are tested before they are narrowed. Assumes nothing.
use mathlib.Core.Bool.{true}
use mathlib.Core.Path.{◌≡◌, sym, ap, ◌∙◌}
use mir.Facts.{to_z-of_z}
use mir.Syntax.{w16}
use mir.Val.{SFits}
use borrow.Author.Tests.{not-true, not-false}
use Rattle.levels.specs.Level.{setting_of, top_ok, spacing_ok, setting_ok}
use Rattle.levels.proofs.Sizes.{top_fits, spacing_fits}
use Rattle.sheets.proofs.Settings.{not_ok, passes, top_out, spacing_out}
use Rattle.sheets.proofs.judge.setting_test.Goals.{After-setting_of-setting, After-setting_ok, After-top_ok, Else-not-spacing_ok, Else-not-top_ok}
use Rattle.sheets.proofs.judge.setting_test.Goals as goal

-- what `top_ok` says of the top
top-told : (c : After-top_ok) → c.top_ok.result ≡ top_ok c.args.top
top-told c = c.top_ok.ensures ∙ ap top_ok (to_z-of_z c.ranges.top)

-- top is within its bounds, and so fits
top_in : (c : Else-not-top_ok) → SFits w16 c.args.top
top_in c = top_fits _ (sym (top-told c.before) ∙ not-false c.top_ok.result c.if-not-top_ok.false-raw)

spacing-in : (c : Else-not-spacing_ok) → spacing_ok c.args.spacing ≡ true
spacing-in c = let t = c.spacing_ok in sym t.ensures ∙ not-false t.result c.if-not-spacing_ok.false-raw

-- the setting, of the values before they were narrowed
made : (c : After-setting_of-setting) → let a = c.args in
    c.setting_of-setting.result ≡ setting_of a.top a.spacing
made c =
    let k = c.before.before.before in
    let s = k in
    simp (to_z-of_z s.ranges.top, to_z-of_z (top_in k)) at c.setting_of-setting.ensures

-- what `setting_ok` says of them
judged : (c : After-setting_ok) → let a = c.args in
    c.setting_ok.result ≡ setting_ok a.n (setting_of a.top a.spacing)
judged c =
    let s = c in
    c.setting_ok.ensures ∙ rw (made c.before, s.requires)

pub returns-then-not-top_ok : goal.returns-then-not-top_ok
returns-then-not-top_ok c = let t = (goal.at.returns-then-not-top_ok c).After-top_ok in
    let a = t.args in
    let out = sym (top-told t) ∙ not-true t.top_ok.result c.if-not-top_ok.true-raw in
    sym (top_out a.n a.top a.spacing out)

pub returns-then-not-spacing_ok : goal.returns-then-not-spacing_ok
returns-then-not-spacing_ok c = let t = c in
    let a = t.args in
    let out = sym t.spacing_ok.ensures ∙ not-true t.spacing_ok.result c.if-not-spacing_ok.true-raw in
    sym (spacing_out a.n a.top a.spacing out)

pub overflow_cast-top : goal.overflow_cast-top
overflow_cast-top c = let k = (goal.at.overflow_cast-top c).Else-not-top_ok in
    rw (to_z-of_z k.ranges.top) (top_in k)

pub overflow_cast-spacing : goal.overflow_cast-spacing
overflow_cast-spacing c = spacing_fits _ (spacing-in c)

pub returns-then-not-setting_ok : goal.returns-then-not-setting_ok
returns-then-not-setting_ok c = let k = (goal.at.returns-then-not-setting_ok c).After-setting_ok in
    let a = k.args in
    let out = sym (judged k) ∙ not-true k.setting_ok.result c.if-not-setting_ok.true-raw in
    sym (not_ok a.n a.top a.spacing out)

pub returns : goal.returns
returns c = let k = (goal.at.returns c).After-setting_ok in
    let a = k.args in
    let good = sym (judged k) ∙ not-false k.setting_ok.result c.if-not-setting_ok.false-raw in
    rw (made (goal.at.returns c).After-setting_of-setting) (sym (passes a.n a.top a.spacing good))
