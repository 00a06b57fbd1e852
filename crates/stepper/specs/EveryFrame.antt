-- Any frame, to any session, with any buffer lent for its answer (document 01, "Turned down": demand 1). Proved in proofs/EveryFrame.
use Rattle.std.specs.Prelude.{true, List, [], ◌∷◌, ◌++◌, ◌≡◌, ℕ, ◌≤◌, length, take, drop, set, replicate}
use Rattle.refusals.specs.declared.Cause.{Cause}
use Rattle.refusals.specs.declared.Cause.TheVariants.{WindowLength, NotBegun}
use Rattle.frames.specs.declared.answer.Reply.TheVariants.{Refused}
use Rattle.frames.specs.Answer.{accepted, header_for}
use Rattle.frames.specs.Fields.{ascii}
use Rattle.frames.specs.Question.{is_second}
use Rattle.stepper.specs.declared.session.Session.{Session}
use Rattle.stepper.specs.Exchange.{Outcome, exchange}
use Rattle.stepper.specs.ExactlyOnce.{Rejected}
use Rattle.stepper.specs.Example.{beginning, asking, lent, odd, left_reference}

-- The frame f was accepted, in its own version: the buffer has room for its answer, forty bytes that start WKA1 or WKA2 and zero, and the bytes
-- past forty are what they were.
pub record AcceptedFrame (f buffer : List ℕ) (o : Outcome) : Type 0 where
  pub room : 40 ≤ length buffer
  pub long : length (take 40 o.1) ≡ 40
  pub front : take 5 o.1 ≡ header_for (is_second f) ++ (0 ∷ [])
  pub rest : drop 40 o.1 ≡ drop 40 buffer

-- A refused frame gets the number of its cause, leaves the session as it was, and touches only the bytes that the table names; and what an accepted
-- one touches.
pub record EveryFrame : Type 0 where
  pub when_refused : (s : Session) (f buffer : List ℕ) (cause : Cause) → (exchange s f buffer).0.reply ≡ Refused cause →
      Rejected cause s f buffer (exchange s f buffer)
  pub when_accepted : (s : Session) (f buffer : List ℕ) → accepted (exchange s f buffer).0.reply ≡ true →
      AcceptedFrame f buffer (exchange s f buffer)

-- a begin frame of a round of 17 symbols, to a session in a round, into 41 bytes
unfoldable pub beginning17 : List ℕ
beginning17 = set beginning 5 17

pub record EveryFrameInstance : Type 0 where
  pub refused_begin : Rejected WindowLength left_reference beginning17 (lent 41) (exchange left_reference beginning17 (lent 41))
  pub refused_bytes : (exchange left_reference beginning17 (lent 41)).1 ≡ ascii "WKA1" ++ (6 ∷ []) ++ replicate 35 0 ++ (7 ∷ [])
  pub refused_query : Rejected NotBegun odd asking (lent 40) (exchange odd asking (lent 40))
  pub accepted_query : AcceptedFrame asking (lent 41) (exchange left_reference asking (lent 41))
