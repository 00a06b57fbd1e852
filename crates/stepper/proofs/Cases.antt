-- The cases of a step frame, each under the tests that lead to it. Assumes nothing.
use mathlib.Core.Bool.{Bool, true, false, false≢true, cond, ◌&&◌}
use mathlib.Core.List.{List}
use mathlib.Core.Path.{◌≡◌, sym, ap, ◌∙◌}
use Prim.Native.Nat.{ℕ, ◌+◌, ◌-◌, ◌≤◌}
use native.Mathlib.Omega.{arith}
use lib.Dec.{leb}
use lib.ListN.{length, take}
use lib.Seq.{length-take-le, get_or-take}
use borrow.Author.Tests.{le-leb, eq-eqb, ne_eqb}
use Rattle.std.specs.Prelude.{Ok, Err}
use Rattle.weak_orders.specs.Window.{is_length}
use Rattle.weak_orders.proofs.FormTests.{says_length}
use Rattle.weak_orders.proofs.Tests.{by_test, says?, says_no, not_true→false}
use Rattle.ranking.specs.Counts.{a}
use Rattle.successors.specs.NextSymbol.{next_symbol}
use Rattle.successors.specs.Rules.{rule_of, in_form}
use Rattle.successors.proofs.Steppable.{Steppable, accepted as yes-judged, steppable_of, symbol_judged, no_symbol}
use Rattle.refusals.specs.declared.Cause.{Cause}
use Rattle.refusals.specs.declared.Cause.TheVariants.{NotBegun, StepNumber, RoundFinished}
use Rattle.frames.specs.declared.answer.Reply.{Reply}
use Rattle.frames.specs.Fields.{byte}
use Rattle.frames.specs.Answer.{accepted, newest}
use Rattle.stepper.specs.declared.session.Exchanged.{Exchanged}
use Rattle.stepper.specs.declared.session.Session.{Session}
use Rattle.stepper.specs.Exchange.{reply_if, begin_reply, is_numbered, begun_if, has_begun, refuse}
use Rattle.stepper.specs.Exchange.{onward, stepped, if_begun, step_numbered}
use Rattle.stepper.proofs.Begun.{says_begun}

-- a(n), as it is looked up, where n is a window's length
pub looked_up : (n m : ℕ) → n ≤ 16 → m ≡ cond (leb n 16) (a n) 0 → m ≡ a n
looked_up n m h e = rw (le-leb n 16 h) at e

-- Whether a session has begun, by the reply that a begin frame for its round would get.
module _ (s : Session) (formed : Bool) (reply : Reply) (flag : s.begun ≡ 1) (judged : reply ≡ reply_if s formed) where
  high : accepted (reply_if s formed) ≡ true → s.n ≤ 16
  unfolding reply_if accepted
  high t = elim (says? (says_length s.n)) [
    | yes l ↦ l.1
    | no l ↦ absurd (false≢true (rw (says_no (says_length s.n) l) at t))
  ]

  pub begun_accepted : (m : ℕ) → m ≡ cond (leb s.n 16) (a s.n) 0 → accepted reply ≡ true →
      (leb s.done m && is_numbered s) ≡ begun_if s formed
  unfolding begun_if
  begun_accepted m e t =
      let t' : accepted (reply_if s formed) ≡ true = ap accepted (sym judged) ∙ t in
      rw (eq-eqb s.begun 1 flag, t', looked_up s.n m (high t') e)

  pub begun_refused : accepted reply ≡ false → false ≡ begun_if s formed
  unfolding begun_if
  begun_refused t =
      let t' : accepted (reply_if s formed) ≡ false = ap accepted (sym judged) ∙ t in
      rw (eq-eqb s.begun 1 flag, t')

-- The form's test as code has it.
module _ (s : Session) where
  unfoldable pub tested : Bool
  tested = is_length s.n && in_form s.rule (take s.n s.window)

  pub reply_tested : reply_if s tested ≡ begin_reply s
  unfolding begin_reply reply_if tested
  reply_tested = by_test (is_length s.n) (λ t. rw t) (λ t. rw t)

  pub begun_tested : begun_if s tested ≡ has_begun s
  unfolding has_begun begun_if reply_if accepted tested
  begun_tested = by_test (is_length s.n) (λ t. rw t) (λ t. rw t)

  -- Whether a session has begun, by what gives the next symbol.
  pub not_begun_if : begun_if s true ≡ false → has_begun s ≡ false
  unfolding has_begun
  not_begun_if e = not_true→false (has_begun s) (λ t. false≢true (sym e ∙ rw ((says_begun s).to t).round.form at t))

  module _ (l : length s.window ≡ 16) where
    pub begun_symbol : {x : ℕ} → begun_if s true ≡ true → next_symbol s.rule s.n (take s.n s.window) ≡ Ok x →
        (has_begun s ≡ true) × (is_length s.n ≡ true) × (x ≡ rule_of s.rule (take s.n s.window))
    unfolding has_begun
    begun_symbol t e =
        let (passed, same) = symbol_judged s.rule s.n (take s.n s.window) e in
        let (known, (long, form)) = steppable_of s.rule s.n s.window l passed in
        (rw form t, long, same)

    pub begun_no_symbol : {c : Cause} → next_symbol s.rule s.n (take s.n s.window) ≡ Err c → has_begun s ≡ false
    begun_no_symbol e = not_true→false (has_begun s) (λ t.
        let round = ((says_begun s).to t).round in
        let passed : Steppable s.rule s.n s.window = (round.known, ((says_length s.n).of (round.low, round.high), round.form)) in
        no_symbol s.rule s.n (take s.n s.window) e (yes-judged s.rule s.n s.window l passed))

-- Test 10, passed or not.
module _ (s : Session) where
  pub not_begun : (x : Exchanged) → has_begun s ≡ false → refuse s NotBegun ≡ if_begun s x
  unfolding if_begun
  not_begun x e = rw e

  pub if_begun_lem : {x : Exchanged} (y : Exchanged) → has_begun s ≡ true → x ≡ y → x ≡ if_begun s y
  unfolding if_begun
  if_begun_lem y b e = rw b e

-- Step frames of the round, by their number.
module _ (s : Session) (k : ℕ) where
  pub zero_number : k ≡ 0 → refuse s StepNumber ≡ step_numbered s k
  unfolding step_numbered
  zero_number z = rw (eq-eqb k 0 z)

  module _ (positive : k ≡ 0 → ⊥) where
    pub resent : k ≡ s.done → stepped s ≡ step_numbered s k
    unfolding step_numbered
    resent e = rw (ne_eqb k 0 positive, eq-eqb k s.done e, ne_eqb k (s.done + 1) (λ e'. omega arith))

    pub misnumbered : (k ≡ s.done → ⊥) → (k - 1 ≡ s.done → ⊥) → refuse s StepNumber ≡ step_numbered s k
    unfolding step_numbered
    misnumbered x y = rw (ne_eqb k 0 positive, ne_eqb k s.done x, ne_eqb k (s.done + 1) (λ e. y (omega arith)))

    module _ (next : k - 1 ≡ s.done) where
      pub finished : s.done ≡ a s.n → refuse s RoundFinished ≡ step_numbered s k
      unfolding step_numbered
      finished e = rw (
        ne_eqb k 0 positive,
        ne_eqb k s.done (λ e. omega arith),
        eq-eqb k (s.done + 1) (omega arith),
        eq-eqb s.done (a s.n) e,
      )

      pub steps : (s.done ≡ a s.n → ⊥) → stepped (onward s) ≡ step_numbered s k
      unfolding step_numbered
      steps x = rw (
        ne_eqb k 0 positive,
        ne_eqb k s.done (λ e. omega arith),
        eq-eqb k (s.done + 1) (omega arith),
        ne_eqb s.done (a s.n) x,
      )

-- The newest of the first n symbols.
pub newest_at : (w : List ℕ) (n : ℕ) → 1 ≤ n → n ≤ length w → byte w (n - 1) ≡ newest (take n w)
unfolding newest
newest_at w n low high = rw (length-take-le n w high) (sym (get_or-take n w (n - 1) 0 (omega arith)))
