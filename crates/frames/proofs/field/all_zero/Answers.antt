use mathlib.Core.Path.{sym, ◌∙◌}
use native.Mathlib.Omega.{arith}
use borrow.Author.Tests.{eq-eqb, ne_eqb}
use Rattle.frames.specs.Fields.{byte}
use Rattle.frames.proofs.ByteTests.{zeros-drop, zeros-none}
use Rattle.frames.proofs.field.all_zero.Goals as goal

pub returns-then-byte-ne0 : goal.returns-then-byte-ne0
returns-then-byte-ne0 c =
    let s = c.args.s.now in
    let i = c.loop-byte.byte-index in
    rw (c.loop-byte.invariant ∙ zeros-drop s i (omega arith), ne_eqb 0 (byte s i) (λ e. c.if-byte-ne0.true (sym e)))

pub loop-byte-preserved : goal.loop-byte-preserved
loop-byte-preserved c =
    let s = c.args.s.now in
    let i = c.loop-byte.byte-index in
    rw (eq-eqb 0 (byte s i) (sym c.if-byte-ne0.false)) at (c.loop-byte.invariant ∙ zeros-drop s i (omega arith))

pub returns : goal.returns
returns c = sym (c.loop-byte.invariant ∙ zeros-none c.args.s.now c.loop-byte.byte-index (omega arith))
