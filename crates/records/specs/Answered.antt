-- What a record comes to: the session after it, and the bytes written for it; and what a run of records comes to. That the records are those of the
-- input, and that their answers are written, Runs says.
use Rattle.std.specs.Prelude.{List, ◌∷◌, ◌≡◌, ℕ, ◌≤◌, length}
use Rattle.frames.specs.Answer.{reply_number}
use Rattle.stepper.specs.declared.session.Session.{Session}
use Rattle.records.specs.declared.Content.{Content}
use Rattle.records.specs.declared.Content.TheVariants.{Frame, LevelFile}
use Rattle.stepper.specs.Exchange.{fresh, Outcome, exchange, load_levels}
use Rattle.stepper.specs.ExactlyOnce.{Event, next, after}

-- the number, and the answer buffer behind it
abbrev pub numbered : Outcome → Session × List ℕ
numbered (x, buffer) = (x.session, reply_number x.reply ∷ buffer)

-- what a record comes to: a level file, or a frame, which is answered in the buffer
abbrev pub answered : Content → Session → List ℕ → List ℕ → Session × List ℕ
answered Frame s bytes buffer = numbered (exchange s bytes buffer)
answered LevelFile s bytes buffer = numbered (load_levels s bytes, buffer)

-- one event leads from the session s to t: a frame with its buffer, or a level file
pub record Comes (s t : Session) : Type 0 where
  pub event : Event
  pub left : t ≡ next s event

-- a list of events leads from a fresh session to s, and there are at most `most`
pub record Reached (most : ℕ) (s : Session) : Type 0 where
  pub events : List Event
  pub few : length events ≤ most
  pub left : s ≡ after fresh events
