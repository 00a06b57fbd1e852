-- `on_table` meets its contract: the top is tested by its bits. Assumes nothing.
use mathlib.Core.Path.{refl}
use mir.Syntax.{w16}
use mir.Val.{SFits}
use borrow.Author.Rules.{rules}
use borrow.Author.Tests.{ne_eqb}
use Rattle.levels.specs.Level.{on_table}
use Rattle.levels.proofs.Sizes.{zero_bits}
use Rattle.levels.proofs.on_table.Goals.{Start}
use Rattle.levels.proofs.on_table.Goals as goal

top-fits : (s : Start) → SFits w16 s.args.setting.top
top-fits s = search rules

pub returns-then-setting-eq0 : goal.returns-then-setting-eq0
unfolding on_table
returns-then-setting-eq0 c = rw (← zero_bits w16 refl c.args.setting.top (top-fits (goal.at.returns-then-setting-eq0 c).Start), c.if-setting-eq0.true)

pub returns-else-setting-eq0 : goal.returns-else-setting-eq0
unfolding on_table
returns-else-setting-eq0 c = rw (← zero_bits w16 refl c.args.setting.top (top-fits (goal.at.returns-else-setting-eq0 c).Start), ne_eqb _ 0 c.if-setting-eq0.false)
