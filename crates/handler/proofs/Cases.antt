-- The parts of an answer, and the buffer behind it. Assumes nothing.
use mathlib.Core.Bool.{Bool, true}
use mathlib.Core.List.{List, ◌++◌}
use mathlib.Core.Path.{◌≡◌, refl, sym}
use Prim.Native.Nat.{ℕ, ◌≤◌, ◌<◌}
use native.Mathlib.Omega.{arith}
use lib.ListN.{length, take, drop}
use lib.Seq.{length-take-le}
use borrow.Author.Tests.{le-ltb}
use Rattle.weak_orders.specs.Window.{different, height, bound, padded}
use Rattle.weak_orders.proofs.Bits.{different-ones}
use Rattle.weak_orders.proofs.Symbols.{bound_find}
use Rattle.successors.specs.Rules.{in_form}
use Rattle.successors.proofs.RuleNumbers.{form_bound}
use Rattle.frames.specs.declared.answer.Reply.{Reply}
use Rattle.frames.specs.declared.answer.Reply.TheVariants.{Accepted, Refused}
use Rattle.frames.specs.Question.{is_second}
use Rattle.frames.specs.Answer.{accepted, answer_bytes}
use Rattle.frames.proofs.Padding.{padded-take}
use Rattle.stepper.specs.declared.session.Exchanged.{Exchanged}
use Rattle.stepper.specs.declared.session.Session.{Session}
use Rattle.stepper.specs.Exchange.{has_begun}
use Rattle.stepper.specs.Exchange.{handle, answer_to, exchange}
use Rattle.stepper.proofs.Begun.{says_begun}

-- The answer: what stands in it of the window counts only where the frame was accepted, and then the session has begun.
pub same_answer : (second : Bool) (round : ℕ) (reply : Reply) (done d d' : ℕ) (w w' : List ℕ) → (accepted reply ≡ true → (d ≡ d') × (w ≡ w')) →
    answer_bytes second round reply d done w ≡ answer_bytes second round reply d' done w'
unfolding answer_bytes accepted
same_answer second round (Accepted symbol level) done d d' w w' h = let (e, e') = h refl in rw (e, e')
same_answer second round (Refused cause) done d d' w w' h = refl

-- the symbols of a window of at most 16 in either form are below 31
low : (rule : ℕ) (w : List ℕ) → length w ≤ 16 → in_form rule w ≡ true → bound w ≤ 31
low rule w le h =
    let small : ¬ (31 < bound w) = λ lt. let (x, m, big) = bound_find w 31 lt in omega (arith, form_bound rule w h x m) in
    omega arith

pub answer_parts : (s : Session) → length s.window ≡ 16 → has_begun s ≡ true →
    (height (take s.n s.window) 31 ≡ different (take s.n s.window)) × (s.window ≡ padded (take s.n s.window))
answer_parts s l t =
    let round = ((says_begun s).to t).round in
    let w = take s.n s.window in
    let long = length-take-le s.n s.window (omega (arith, round.high)) in (
      different-ones w (low s.rule w (omega (arith, round.high)) round.form),
      sym (padded-take s.window s.n l round.high round.unused),
    )

-- An answer copied over a buffer that has room for it.
pub written_over : (s : Session) (f buffer : List ℕ) (x : Exchanged) (bytes : List ℕ) → 40 ≤ length buffer → x ≡ handle s f →
    bytes ≡ answer_to (is_second f) x → (x, bytes ++ drop 40 buffer) ≡ exchange s f buffer
unfolding exchange
written_over s f buffer x bytes room h b = rw (le-ltb (length buffer) 40 room, ← h, b)
