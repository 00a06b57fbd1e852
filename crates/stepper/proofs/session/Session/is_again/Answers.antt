-- `Session::is_again`: no frame has an n above 255; else the bytes of the begin frame in force are compared. Assumes nothing.
use mathlib.Core.Bool.{false, ◌&&◌}
use mathlib.Core.List.{List}
use mathlib.Core.Path.{◌≡◌, ap, ◌∙◌}
use Prim.Native.Nat.{ℕ, ◌<◌}
use native.Mathlib.Omega.{arith}
use lib.Dec.{eqb}
use mir.Val.{Fits}
use mir.Syntax.{w8}
use Rattle.weak_orders.proofs.Tests.{by_test, not_true→false}
use Rattle.frames.specs.Fields.{byte, same_bytes}
use Rattle.frames.specs.Question.{length_in, begin_bytes}
use Rattle.frames.proofs.ByteTests.{says_same_bytes}
use Rattle.stepper.specs.declared.session.Session.{Session}
use Rattle.stepper.specs.Exchange.{begun_by, again_if}
use borrow.Author.Rules.{rules}
use borrow.Author.Tests.{eq-eqb, ne_eqb}
use Rattle.stepper.proofs.session.Session.is_again.Goals as goal

-- a frame's n is a byte
other_length : (s : Session) (f : List ℕ) → 255 < s.n → byte f 5 < 256 → same_bytes f (begun_by s) ≡ false
unfolding begun_by begin_bytes
other_length s f large small = not_true→false _ (λ t. omega (arith, ap length_in ((says_same_bytes f (begun_by s)).to t)))

pub returns-in_default : goal.returns-in_default
unfolding again_if
returns-in_default c =
    let s = c.args in
    let small : Fits w8 (byte s.f 5) = search rules in
    let large : 255 < s.self.n = omega (arith, c.in_default.ensures) in
    rw (other_length s.self s.f large small.fits)
    (by_test s.force (λ e. rw e (by_test (eqb s.self.done 0) (λ e. rw e) (λ e. rw e))) (λ e. rw e))

pub returns-then-not-force : goal.returns-then-not-force
unfolding again_if
returns-then-not-force c = rw c.if-not-force.true

pub returns-then-self-eq0 : goal.returns-then-self-eq0
unfolding again_if begun_by
returns-then-self-eq0 c =
    rw (c.if-not-force.false, eq-eqb c.args.self.done 0 c.if-self-eq0.true) (c.same.ensures ∙ rw (c.begin_bytes-begun_by.ensures, c.in-Ok.ensures.1))

pub returns-else-self-eq0 : goal.returns-else-self-eq0
unfolding again_if begun_by
returns-else-self-eq0 c = rw (c.if-not-force.false, ne_eqb c.args.self.done 0 c.if-self-eq0.false)
