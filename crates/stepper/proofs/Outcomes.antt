-- What any frame comes to, in one chain of its tests: a refusal, which leaves the session; the session itself, which has begun; a new round; or a
-- step. So an accepted frame leaves a session that has begun, and a refused one the session that was there. Assumes nothing.
use mathlib.Core.Bool.{Bool, true, false, cond, not, ◌&&◌, ◌||◌, false≢true}
use mathlib.Core.List.{List}
use mathlib.Core.Path.{◌≡◌, refl, sym, ap, ◌∙◌, subst}
use Prim.Native.Nat.{ℕ, ◌+◌, ◌≤◌}
use native.Mathlib.Omega.{arith}
use lib.Dec.{eqb}
use lib.IntN.{ℤ}
use lib.ListN.{length}
use borrow.Author.Tests.{eqb-false, not-true, not-false}
use Rattle.weak_orders.proofs.Tests.{by_test}
use Rattle.ranking.specs.Counts.{a}
use Rattle.refusals.specs.declared.Cause.{Cause}
use Rattle.frames.specs.declared.answer.Reply.{Reply}
use Rattle.frames.specs.declared.answer.Reply.TheVariants.{Accepted, Refused}
use Rattle.frames.specs.Question.{is_question, is_second, kind_in, letter_b, letter_s, letter_q, round_number_in, number_in, reserved_b, reserved_s, reserved_q}
use Rattle.frames.specs.Answer.{accepted, step_reply}
use Rattle.stepper.specs.declared.session.Exchanged.{Exchanged}
use Rattle.stepper.specs.declared.session.Session.{Session}
use Rattle.stepper.specs.Exchange.{begin_reply, in_second, has_begun, refuse, accept, round_in, is_again, takes_number, begin_anew, begin_frame, onward}
use Rattle.stepper.specs.Exchange.{stepped, same_version, if_begun, if_version, step_numbered, step_of, query_of, step_frame, query_frame, handle}
use Rattle.stepper.proofs.Accepted.{by_cond}
use Rattle.stepper.proofs.Begun.{Begun, says_round, begin_judged, says_begun, onward_begun, numbered, reserved_parts}
use Rattle.stepper.proofs.Coding.{says_again}
use Rattle.stepper.proofs.Handling.{begin_state}

round_begun : (f : List ℕ) (h : List ℤ) → reserved_b f ≡ true → accepted (begin_reply (round_in f h)) ≡ true → Begun (round_in f h)
unfolding round_in
round_begun f h r t = record {
  flag = refl;
  round = (says_round _ _ _ _).to (sym (begin_judged (round_in f h)) ∙ t);
  within = omega arith;
  number = numbered f h (reserved_parts f r).0;
}

-- a step numbered k that passed tests 11 and 12
abbrev Passes : Session → ℕ → Type 0
Passes s k = (eqb k (s.done + 1) && eqb s.done (a s.n)) ≡ false

-- The chain, for whatever holds of each end.
module _ (P : Exchanged → Type 0) (s : Session) (refused : (cause : Cause) → P (refuse s cause)) (same : Begun s → P (accept s)) where
  refused_as : (reply : Reply) → accepted reply ≡ false → P (record { session = s; reply = reply })
  unfolding accepted
  refused_as (Accepted symbol level) e = absurd (false≢true (sym e))
  refused_as (Refused cause) e = refused cause

  begin_outcome : (f : List ℕ) → (Begun (round_in f s.held) → P (accept (round_in f s.held))) → P (begin_frame s f)
  unfolding begin_frame begin_anew
  begin_outcome f anew =
      let round = round_in f s.held in
      let reply = begin_reply round in
      by_cond P (not (reserved_b f)) (λ e. refused _) (λ r.
      by_cond P (is_again s f) (λ e. same ((says_again s f).to e).begun) (λ e.
      by_cond P (not (accepted reply)) (λ e. refused_as reply (not-true (accepted reply) e)) (λ passed.
      by_cond P (takes_number s f) (λ e. refused _) (λ free.
      let t = not-false (accepted reply) passed in
      subst (λ y. P (record { session = round; reply = y })) (sym (begin_state round t)) (anew (round_begun f s.held (not-false _ r) t))))))

  begun_outcome : (x : Exchanged) → (Begun s → P x) → P (if_begun s x)
  unfolding if_begun
  begun_outcome x there = by_cond P (not (has_begun s)) (λ e. refused _) (λ e. there ((says_begun s).to (not-false (has_begun s) e)))

  version_outcome : (second : Bool) (x : Exchanged) → P x → P (if_version s second x)
  unfolding if_version
  version_outcome second x there = by_cond P (not (same_version second (in_second s))) (λ e. refused _) (λ e. there)

  step_outcome : (k : ℕ) → (Begun s → Passes s k → P (stepped (cond (eqb k (s.done + 1)) (onward s) s))) → (second : Bool) (r : ℕ) →
      P (step_of s second r k)
  unfolding step_of step_numbered
  step_outcome k steps second r =
      begun_outcome _ (λ b.
      version_outcome second _ (
      by_cond P (second && not (eqb r s.round)) (λ e. refused _) (λ e.
      by_cond P (eqb k 0 || not (eqb k s.done || eqb k (s.done + 1))) (λ e. refused _) (λ e.
      by_cond P (eqb k (s.done + 1) && eqb s.done (a s.n)) (λ e. refused _) (λ passed. steps b passed)))))

  query_outcome : (second : Bool) → P (query_of s second)
  unfolding query_of
  query_outcome second = begun_outcome _ (λ b. version_outcome second _ (same b))

  handle_outcome : (f : List ℕ) → (Begun (round_in f s.held) → P (accept (round_in f s.held))) →
      ((k : ℕ) → Begun s → Passes s k → P (stepped (cond (eqb k (s.done + 1)) (onward s) s))) → P (handle s f)
  unfolding handle step_frame query_frame
  handle_outcome f anew steps =
      by_cond P (not (eqb (length f) 40)) (λ e. refused _) (λ e.
      by_cond P (not (is_question f)) (λ e. refused _) (λ e.
      by_cond P (eqb (kind_in f) letter_b) (λ e. begin_outcome f anew) (λ e.
      by_cond P (eqb (kind_in f) letter_s) (λ e.
      by_cond P (not (reserved_s f)) (λ e. refused _) (λ e. step_outcome (number_in f) (steps (number_in f)) (is_second f) (round_number_in f))) (λ e.
      by_cond P (eqb (kind_in f) letter_q) (λ e.
      by_cond P (not (reserved_q f)) (λ e. refused _) (λ e. query_outcome (is_second f)))
      (λ e. refused _)))))

module _ (s : Session) where
  -- a step leaves what it found, or the session that has gone on
  by_step : (P : Session → Type 0) (k : ℕ) → (eqb k (s.done + 1) ≡ true → P (onward s)) → P s → P (cond (eqb k (s.done + 1)) (onward s) s)
  by_step P k on there = by_test (eqb k (s.done + 1)) (λ e. rw e (on e)) (λ e. rw e there)

  pub handle_leaves : length s.window ≡ 16 → (f : List ℕ) → accepted (handle s f).reply ≡ true → Begun (handle s f).session
  unfolding accepted stepped
  handle_leaves l f = handle_outcome (λ x. accepted x.reply ≡ true → Begun x.session) s
      (λ cause t. absurd (false≢true t)) (λ b t. b) f (λ b t. b)
      (λ k b passed t. by_step Begun k (λ e.
      let x : s.done ≡ a s.n → ⊥ = eqb-false s.done (a s.n) (rw e at passed) in
      onward_begun s l b (omega (arith, b.within))) b)

  -- of a session whose window is of any length
  pub handle-length : (f : List ℕ) → accepted (handle s f).reply ≡ true → (handle s f).session.n ≤ 16
  unfolding accepted stepped onward
  handle-length f = handle_outcome (λ x. accepted x.reply ≡ true → x.session.n ≤ 16) s
      (λ cause t. absurd (false≢true t)) (λ b t. b.round.high) f (λ b t. b.round.high)
      (λ k b passed t. by_step (λ u. u.n ≤ 16) k (λ e. b.round.high) b.round.high)

  pub handle_refuses : (f : List ℕ) (cause : Cause) → (handle s f).reply ≡ Refused cause → handle s f ≡ refuse s cause
  unfolding accepted stepped step_reply
  handle_refuses f cause = handle_outcome (λ x. x.reply ≡ Refused cause → x ≡ refuse s cause) s
      (λ other e. ap (λ y. record { session = s; reply = y }) e) (λ b e. no_refusal e) f (λ b e. no_refusal e) (λ k b passed e. no_refusal e)
    where
      no_refusal : {symbol : ℕ} {level : ℤ} {x : Exchanged} → Accepted symbol level ≡ Refused cause → x ≡ refuse s cause
      no_refusal e = absurd (false≢true (sym (ap accepted e)))
