-- `setting_ok` meets its contract: the tests are those of the definition. Assumes nothing.
use mathlib.Core.Bool.{true, false, false≢true}
use mathlib.Core.Path.{◌≡◌, sym, ap, ◌∙◌}
use native.Mathlib.Omega.{arith}
use mir.Facts.{to_z-of_z, sfits_widen}
use mir.Syntax.{w16, w32}
use mir.Val.{SFits}
use borrow.Author.Rules.{rules, sfits_of}
use Rattle.weak_orders.specs.Window.{is_length}
use Rattle.weak_orders.proofs.FormTests.{says_length}
use Rattle.levels.specs.Level.{top_ok, spacing_ok, even_ok, setting_ok}
use Rattle.levels.proofs.setting_ok.Goals.{After-top_ok, Else-not-is_length, then-top_ok, else-top_ok}
use Rattle.levels.proofs.setting_ok.Goals as goal

passed : (c : Else-not-is_length) → is_length c.args.n ≡ true
passed c = sym c.is_length.ensures ∙ c.if-not-is_length.false

pub returns-then-on_table : goal.returns-then-on_table
unfolding setting_ok
returns-then-on_table c =
    rw (passed (goal.at.returns-then-on_table c).Else-not-is_length, ← c.on_table.ensures, c.if-on_table.true) c.table_ok.ensures

pub overflow_sub-n : goal.overflow_sub-n
overflow_sub-n c = omega (arith, (says_length _).to (passed (goal.at.overflow_sub-n c).Else-not-is_length))

pub overflow_cast-n : goal.overflow_cast-n
overflow_cast-n c = record { fits = omega (arith, (says_length _).to (passed (goal.at.overflow_cast-n c).Else-not-is_length)) }

-- what the tests before the last say, where the first passes and where it fails
tops : (c : After-top_ok) → c.top_ok.result ≡ top_ok c.args.setting.top
tops c =
    let fits : SFits w16 c.args.setting.top = search rules in
    let wide : SFits w32 c.args.setting.top = sfits_widen tt fits in
    c.top_ok.ensures ∙ rw (c.from.ensures, to_z-of_z fits, to_z-of_z wide)

pub returns-then-spacing_ok : goal.returns-then-spacing_ok
unfolding setting_ok even_ok
returns-then-spacing_ok c =
    let s = c.args.setting in
    let lowest : SFits w32 c.lowered-lowest.result = sfits_of c.lowered-lowest.type_inv in
    let top = tops (goal.at.returns-then-spacing_ok c).After-top_ok in
    elim c.if-top_ok.branch [
      | then-top_ok w ↦
          let spacing : spacing_ok s.spacing ≡ true = ap spacing_ok (sym w.from-then-top_ok.ensures) ∙ sym w.spacing_ok.ensures ∙ sym w.value-is ∙ c.if-spacing_ok.true in
          rw (
            passed (goal.at.returns-then-spacing_ok c).Else-not-is_length,
            ← c.on_table.ensures,
            c.if-on_table.false,
            ← top,
            w.if-top_ok.true,
            spacing,
            to_z-of_z lowest,
            c.lowered-lowest.ensures,
          )
      | else-top_ok w ↦ absurd (false≢true (sym w.if-top_ok.false ∙ sym w.value-is ∙ c.if-spacing_ok.true))
    ]

pub returns-else-spacing_ok : goal.returns-else-spacing_ok
unfolding setting_ok even_ok
returns-else-spacing_ok c =
    let s = c.args.setting in
    let top = tops (goal.at.returns-else-spacing_ok c).After-top_ok in
    elim c.if-top_ok.branch [
      | then-top_ok w ↦
          let spacing : spacing_ok s.spacing ≡ false = ap spacing_ok (sym w.from-then-top_ok.ensures) ∙ sym w.spacing_ok.ensures ∙ sym w.value-is ∙ c.if-spacing_ok.false in
          rw (passed (goal.at.returns-else-spacing_ok c).Else-not-is_length, ← c.on_table.ensures, c.if-on_table.false, ← top, w.if-top_ok.true, spacing) c.if-spacing_ok.false
      | else-top_ok w ↦
          rw (passed (goal.at.returns-else-spacing_ok c).Else-not-is_length, ← c.on_table.ensures, c.if-on_table.false, ← top, w.if-top_ok.false) c.if-spacing_ok.false
    ]
