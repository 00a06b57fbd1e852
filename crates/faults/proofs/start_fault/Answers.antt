-- `start_fault`: the count first, then the rule says which form. Assumes nothing.
use borrow.Author.Tests.{eq-eqb, ne_eqb}
use Rattle.faults.proofs.start_fault.Goals as goal

pub returns-then-sheet : goal.returns-then-sheet
returns-then-sheet c = simp (ne_eqb _ _ c.if-sheet.true)

pub returns-then-sheet-eq1 : goal.returns-then-sheet-eq1
returns-then-sheet-eq1 c = simp (eq-eqb _ _ c.if-sheet.false, eq-eqb _ 1 c.if-sheet-eq1.true)

pub returns : goal.returns
returns c = simp (eq-eqb _ _ c.if-sheet.false, ne_eqb _ 1 c.if-sheet-eq1.false)
