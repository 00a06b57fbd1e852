-- `unused_zero` meets its contract, by that of `all_zero`. Assumes nothing.
use mathlib.Core.Path.{◌≡◌, sym, ap, ◌∙◌}
use Prim.Native.Nat.{◌-◌}
use native.Mathlib.Omega.{arith}
use lib.ListN.{length, drop, length-drop}
use lib.Seq.{take_all}
use borrow.Author.Rules.{rules}
use borrow.Author.Tests.{lt-ltb}
use Rattle.frames.specs.Fields.{zeros}
use Rattle.frames.proofs.ByteTests.{zeros-none}
use Rattle.stepper.proofs.session.unused_zero.Goals as goal

pub returns-then-n-gt16 : goal.returns-then-n-gt16
returns-then-n-gt16 c =
    let w = c.args.w in
    let l : length w ≡ 16 = search rules in
    lt-ltb 16 c.args.n c.if-n-gt16.true ∙ sym (zeros-none w c.args.n (omega arith))

pub returns-else-n-gt16 : goal.returns-else-n-gt16
returns-else-n-gt16 c =
    let a = c.args in
    let l : length a.w ≡ 16 = search rules in
    c.all_zero.ensures ∙ ap zeros (take_all (16 - a.n) (drop a.n a.w) (omega (arith, length-drop a.n a.w)))
