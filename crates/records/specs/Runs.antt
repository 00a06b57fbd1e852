-- What a run of records takes from its input and what it writes, where the bytes of both are known: the records' bytes in order, and for each its
-- answer, in order and without a gap.
use Rattle.std.specs.Prelude.{List, [], ◌∷◌, ◌++◌, ◌≡◌, ◌⊎◌, ⊤, ℕ, ◌/◌, ◌%◌, ◌≤◌, length, take, replicate, Option, All, MatchOption}
use Rattle.std.specs.Io.KnownBytes.{Appends, Consumes}
use Rattle.stepper.specs.declared.session.Session.{Session}
use Rattle.stepper.specs.Exchange.{fresh}
use Rattle.stepper.specs.ExactlyOnce.{Event, question, level_file, next, after}
use Rattle.records.specs.declared.Kind.{Kind}
use Rattle.records.specs.declared.Kind.TheVariants.{Frames, Events}
use Rattle.records.specs.declared.Content.TheVariants.{Frame, LevelFile}
use Rattle.records.specs.Answered.{answered}

-- a record from its lengths on: of a frame the length of its answer buffer and its own, in a byte each; of a level file its own in two bytes, the
-- low one first
abbrev pub body_of : Event → List ℕ
body_of (question x) = length x.buffer ∷ length x.frame ∷ x.frame
body_of (level_file f) = length f % 256 ∷ length f / 256 ∷ f

-- F for a frame, L for a level file
abbrev pub letter_of : Event → ℕ
letter_of (question x) = 70
letter_of (level_file f) = 76

abbrev pub record_of : Kind → Event → List ℕ
record_of Frames e = body_of e
record_of Events e = letter_of e ∷ body_of e

-- a frame, whose answer buffer holds 165 in every byte
abbrev pub IsFrame : Event → Type 0
IsFrame (question x) = x.buffer ≡ replicate (length x.buffer) 165
IsFrame (level_file f) = ⊥

abbrev pub IsFile : Event → Type 0
IsFile (question x) = ⊥
IsFile (level_file f) = ⊤

abbrev pub IsOf : Kind → Event → Type 0
IsOf Frames e = IsFrame e
IsOf Events e = IsFrame e ⊎ IsFile e

-- the number, and behind it the answer buffer of a frame
abbrev pub answer_to : Session → Event → List ℕ
answer_to s (question x) = (answered Frame s x.frame x.buffer).1
answer_to s (level_file f) = (answered LevelFile s f []).1

-- the records of a list of events, and the answers to them
abbrev pub records_of : Kind → List Event → List ℕ
records_of k [] = []
records_of k (e ∷ l) = record_of k e ++ records_of k l

abbrev pub answers_to : Session → List Event → List ℕ
answers_to s [] = []
answers_to s (e ∷ l) = answer_to s e ++ answers_to (next s e) l

abbrev pub IsFront : List ℕ → List ℕ → Type 0
IsFront front all = front ≡ take (length front) all

-- a record is played: its event leads from the session s to t, its bytes are taken from the input, and its answer is written
pub record Plays (bytes : Event → List ℕ) (holds : Event → Type 0) (s t : Session) (in₀ in₁ out₀ out₁ : Option (List ℕ)) : Type 0 where
  pub event : Event
  pub held : holds event
  pub left : t ≡ next s event
  pub taken : Consumes in₀ in₁ (bytes event)
  pub written : Appends out₀ out₁ (answer_to s event)

-- a run ends behind the session s: nothing more is written, or the front of the answer to one record more
pub record Ends (bytes : Event → List ℕ) (holds : Event → Type 0) (s : Session) (in₀ in₁ out₀ out₁ : Option (List ℕ)) : Type 0 where
  pub rest : List ℕ
  pub gap : List ℕ
  pub taken : Consumes in₀ in₁ rest
  pub written : Appends out₀ out₁ gap
  pub cut : (gap ≡ []) ⊎ ((e : Event) × holds e × (rest ≡ bytes e) × IsFront gap (answer_to s e))

-- either: the session behind the record, or none
abbrev pub PlaysOrEnds : (Event → List ℕ) → (Event → Type 0) → Session → Option Session → Option (List ℕ) → Option (List ℕ) → Option (List ℕ) → Option (List ℕ) → Type 0
PlaysOrEnds bytes holds s r in₀ in₁ out₀ out₁ = MatchOption r (Ends bytes holds s in₀ in₁ out₀ out₁) (λ t. Plays bytes holds s t in₀ in₁ out₀ out₁)

-- the same of a part that was to be read, and of what was to be written for it
pub record Cut (part answer : List ℕ) (in₀ in₁ out₀ out₁ : Option (List ℕ)) : Type 0 where
  pub rest : List ℕ
  pub gap : List ℕ
  pub taken : Consumes in₀ in₁ rest
  pub written : Appends out₀ out₁ gap
  pub cut : (gap ≡ []) ⊎ ((rest ≡ part) × IsFront gap answer)

-- a list of records is played, from a fresh session to s, at most `most` of them
pub record PlaysAll (kind : Kind) (most : ℕ) (s : Session) (in₀ in₁ out₀ out₁ : Option (List ℕ)) : Type 0 where
  pub events : List Event
  pub few : length events ≤ most
  pub held : All (IsOf kind) events
  pub left : s ≡ after fresh events
  pub taken : Consumes in₀ in₁ (records_of kind events)
  pub written : Appends out₀ out₁ (answers_to fresh events)

-- a list of records is played, and then the run ends
pub record Ran (kind : Kind) (most : ℕ) (s : Session) (in₀ in₁ out₀ out₁ : Option (List ℕ)) : Type 0 where
  pub events : List Event
  pub few : length events ≤ most
  pub held : All (IsOf kind) events
  pub left : s ≡ after fresh events
  pub rest : List ℕ
  pub gap : List ℕ
  pub taken : Consumes in₀ in₁ (records_of kind events ++ rest)
  pub written : Appends out₀ out₁ (answers_to fresh events ++ gap)
  pub cut : (gap ≡ []) ⊎ ((e : Event) × IsOf kind e × (rest ≡ record_of kind e) × IsFront gap (answer_to s e))
