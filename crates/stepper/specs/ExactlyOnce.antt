-- Each step exactly once, whatever is sent again, damaged or lost, and whatever level files are loaded in between (document 01, "Two
-- benches", demand 3; document 02, Papers 4 and 6), over `exchange` and `load_levels`. Document 01's bench A is the reference session here, bench B
-- the retried one.
use Rattle.std.specs.Prelude.{Bool, true, false, cond, not, ◌&&◌, ◌||◌, List, [], ◌∷◌, ◌++◌, map, ◌⊎◌, ◌≡◌, ℕ, zero, suc, ◌+◌, ◌≤◌, ◌<◌, leb, ltb, eqb, ℤ, length, take, drop, replicate}
use Rattle.std.proofs.Math.Option.{Option, none, some}
use Rattle.std.proofs.Math.ListN.{get_elem?}
use Rattle.weak_orders.specs.Window.{iter, different, is_length, padded}
use Rattle.ranking.specs.Counts.{a}
use Rattle.successors.specs.Rules.{rule_of, WeakOrder, is_rule, step}
use Rattle.universal_cycle.specs.Round.{Tour}
use Rattle.refusals.specs.Numbers.{cause_number}
use Rattle.refusals.specs.declared.Cause.{Cause}
use Rattle.refusals.specs.declared.Cause.TheVariants.{ShortBuffer, FrameLength, FrameHeader, ReservedByte, StepNumber, RoundFinished}
use Rattle.refusals.specs.declared.Cause.TheVariants.{OtherVersion, OtherRound}
use Rattle.frames.specs.declared.answer.Reply.{Reply}
use Rattle.frames.specs.declared.answer.Reply.TheVariants.{Refused}
use Rattle.levels.specs.Level.{setting_ok}
use Rattle.frames.specs.Fields.{is_bytes}
use Rattle.frames.specs.Question.{is_question, kind_in, letter_b, letter_s, length_in, rule_in, number_in, setting_in, window_in, takes_table}
use Rattle.frames.specs.Question.{is_second, round_number_in, reserved_b, reserved_s}
use Rattle.frames.specs.Answer.{accepted, header_for, answer_bytes, step_reply, state_reply}
use Rattle.level_files.specs.LevelFile.{read_table}
use Rattle.stepper.specs.declared.session.Session.{Session}
use Rattle.stepper.specs.Exchange.{window_ok, has_begun, table_for, version_of, is_again, takes_number, same_version, Outcome, exchange}
use Rattle.stepper.specs.Exchange.{load_levels}

-- The count. It is fed the begin frame g, the frames that follow and the lengths of their buffers: no session, no answer and no level file.

-- what the count hears of: a frame, and the length of the buffer for its answer
pub record Arrival : Type 0 where
  pub frame : List ℕ
  pub room : ℕ

-- a step frame passes tests 1, 2, 3 and 5, the last by its own version
unfoldable pub passes : Arrival → Bool
unfolding is_question reserved_s
passes x = leb 40 x.room && (eqb (length x.frame) 40 && (is_question x.frame && reserved_s x.frame))

-- it is in the begin frame's version and carries its round number, so that neither 17 nor 18 turns it down
unfoldable pub of_round : List ℕ → Arrival → Bool
unfolding is_second same_version
of_round g x = same_version (is_second x.frame) (is_second g) && eqb (round_number_in x.frame) (round_number_in g)

-- a step frame that passes all these
unfoldable pub steps_in : List ℕ → Arrival → Bool
unfolding passes of_round
steps_in g x = eqb (kind_in x.frame) letter_s && (passes x && of_round g x)

-- the steps of the round that the begin frame begins: a(n)
unfoldable pub round_of : List ℕ → ℕ
unfolding a
round_of g = a (length_in g)

-- at the count c: numbered count + 1, at most a(n)
unfoldable pub is_next : List ℕ → ℕ → Arrival → Bool
unfolding steps_in number_in round_of
is_next g c x = steps_in g x && (eqb (number_in x.frame) (c + 1) && leb (number_in x.frame) (round_of g))

-- numbered count, at least 1 (document 01's resend)
unfoldable pub is_retransmission : List ℕ → ℕ → Arrival → Bool
unfolding steps_in number_in
is_retransmission g c x = steps_in g x && (eqb (number_in x.frame) c && leb 1 (number_in x.frame))

-- accepted at the count c: as the next step, or as a retransmission
unfoldable pub accepts : List ℕ → ℕ → Arrival → Bool
unfolding is_next is_retransmission
accepts g c x = is_next g c x || is_retransmission g c x

-- the count after a frame, and after a list of frames; the begin frame again adds nothing
unfoldable pub counted : List ℕ → ℕ → Arrival → ℕ
unfolding is_next
counted g c x = cond (is_next g c x) (c + 1) c

unfoldable pub count_from : List ℕ → ℕ → List Arrival → ℕ
unfolding counted
count_from g c [] = c
count_from g c (x ∷ l) = count_from g (counted g c x) l

-- the count after the begin frame and a list of frames
unfoldable pub count_of : List ℕ → List Arrival → ℕ
unfolding count_from
count_of g = count_from g 0

-- the cause for which a step frame that the count c does not accept is refused
unfoldable pub cause_at : List ℕ → ℕ → Arrival → Cause
unfolding is_question is_second reserved_s same_version number_in
cause_at g c x =
    cond (ltb x.room 40) ShortBuffer (
    cond (not (eqb (length x.frame) 40)) FrameLength (
    cond (not (is_question x.frame)) FrameHeader (
    cond (not (reserved_s x.frame)) ReservedByte (
    cond (not (same_version (is_second x.frame) (is_second g))) OtherVersion (
    cond (not (eqb (round_number_in x.frame) (round_number_in g))) OtherRound (
    cond (eqb (number_in x.frame) (c + 1)) RoundFinished StepNumber))))))

-- W_0: the begin frame's start window
unfoldable pub start_of : List ℕ → List ℕ
unfolding window_in
start_of g = take (length_in g) (window_in g)

-- W_k: k steps of the rule from W_0
unfoldable pub window_after : List ℕ → ℕ → List ℕ
unfolding iter rule_of step start_of
window_after g k = iter (step (rule_of (rule_in g))) k (start_of g)

-- the session of that round with k steps done, where the round's copy of a table is t, and the table held is h
unfoldable pub session_at : List ℕ → List ℤ → List ℤ → ℕ → Session
unfolding is_second setting_in padded window_after
session_at g t h k =
    record {
      begun = 1;
      version = version_of (is_second g);
      round = round_number_in g;
      n = length_in g;
      rule = rule_in g;
      setting = setting_in g t;
      window = padded (window_after g k);
      done = k;
      held = h;
    }

-- the reply to a step frame numbered k, and its forty bytes: by the copy, whatever table is held
unfoldable pub reply_at : List ℕ → List ℤ → ℕ → Reply
unfolding setting_in step_reply window_after
reply_at g t k = step_reply (rule_in g) (setting_in g t) (window_after g k)

unfoldable pub answer_at : List ℕ → List ℤ → ℕ → List ℕ
unfolding is_second different padded answer_bytes reply_at window_after
answer_at g t k = answer_bytes (is_second g) (round_number_in g) (reply_at g t k) (different (window_after g k)) k (padded (window_after g k))

-- the forty bytes that answer the begin frame
unfoldable pub begin_answer : List ℕ → List ℕ
unfolding is_second different padded answer_bytes start_of
begin_answer g = answer_bytes (is_second g) (round_number_in g) state_reply (different (start_of g)) 0 (padded (start_of g))

-- The two sessions: the reference one (document 01's bench A) and the retried one (bench B).

-- a frame, and the buffer that is lent for its answer
pub record Request : Type 0 where
  pub frame : List ℕ
  pub buffer : List ℕ

abbrev pub arrival : Request → Arrival
arrival x = record { frame = x.frame; room = length x.buffer }

-- what comes to a session: a frame with its buffer, or a level file
pub data Event : Type 0 where
  question : Request → Event
  level_file : List ℕ → Event

-- the frames of a list, and what the count hears of it
unfoldable pub questions : List Event → List Request
questions [] = []
questions (question x ∷ l) = x ∷ questions l
questions (level_file f ∷ l) = questions l

unfoldable pub arrivals : List Event → List Arrival
unfolding questions
arrivals l = map arrival (questions l)

-- the session that an event leaves, and a list of them
unfoldable pub next : Session → Event → Session
unfolding exchange load_levels
next s (question x) = (exchange s x.frame x.buffer).0.session
next s (level_file f) = (load_levels s f).session

unfoldable pub after : Session → List Event → Session
unfolding next
after s [] = s
after s (e ∷ l) = after (next s e) l

-- the buffers of the frames of a list, after each
unfoldable pub answers : Session → List Event → List (List ℕ)
unfolding next exchange
answers s [] = []
answers s (question x ∷ l) = (exchange s x.frame x.buffer).1 ∷ answers (next s (question x)) l
answers s (level_file f ∷ l) = answers (next s (level_file f)) l

-- the table held after a list of events: that of the last file that has one
unfoldable pub table_or : List ℤ → Option (List ℤ) → List ℤ
table_or h (some t) = t
table_or h none = h

unfoldable pub held_after : List ℤ → List Event → List ℤ
unfolding table_or read_table
held_after h [] = h
held_after h (question x ∷ l) = held_after h l
held_after h (level_file f ∷ l) = held_after (table_or h (read_table f)) l

-- a begin frame passes tests 2 to 9, where the table h is held
unfoldable pub begin_ok : List ℕ → List ℤ → Bool
unfolding is_question reserved_b is_length is_rule window_ok setting_in table_for setting_ok
begin_ok g h =
    eqb (length g) 40 && (is_question g && (eqb (kind_in g) letter_b && (reserved_b g && (is_length (length_in g) && (is_rule (rule_in g)
    && (window_ok (length_in g) (rule_in g) (window_in g) && setting_ok (length_in g) (setting_in g (table_for g h))))))))

-- A begin frame with room for its answer is accepted just if it begins the round in force again, or passes these and 19.
abbrev pub BeginAccepted : Type 0
BeginAccepted =
    (s : Session) (g buffer : List ℕ) → kind_in g ≡ letter_b → 40 ≤ length buffer →
    accepted (exchange s g buffer).0.reply ≡ (eqb (length g) 40 && (is_again s g || begin_ok g s.held && not (takes_number s g)))

-- the round's copy once a session accepted the begin frame: the one that it had, where the frame begins the round in force again; otherwise
-- what the frame takes of the table held. On a table round this is what Papers 4 and 6 compare
unfoldable pub copy_after : Session → List ℕ → List ℤ
unfolding is_again table_for
copy_after s g = cond (is_again s g) s.setting.table (table_for g s.held)

-- the reference session's frames: for each number from 1 to a(n), in order, one step frame that passes, in the begin frame's version and with
-- its round number
pub record InOrder (g : List ℕ) (list : List Request) : Type 0 where
  pub long : length list ≡ round_of g
  pub step : (i : ℕ) (x : Request) → get_elem? list i ≡ some x → kind_in x.frame ≡ letter_s
  pub pass : (i : ℕ) (x : Request) → get_elem? list i ≡ some x → passes (arrival x) ≡ true
  pub round : (i : ℕ) (x : Request) → get_elem? list i ≡ some x → of_round g (arrival x) ≡ true
  pub numbered : (i : ℕ) (x : Request) → get_elem? list i ≡ some x → number_in x.frame ≡ i + 1

-- a WKO2 begin frame again, into any buffer, while the count is 0
pub record BeginAgain (g : List ℕ) (before : List Event) (x : Request) : Type 0 where
  pub second : is_second g ≡ true
  pub same : x.frame ≡ g
  pub unstepped : count_of g (arrivals before) ≡ 0

-- the retried session's frames: any whose byte 4 is S, and the begin frame again
pub record FramesOf (g : List ℕ) (list : List Event) : Type 0 where
  pub each : (i : ℕ) (x : Request) → get_elem? list i ≡ some (question x) → (kind_in x.frame ≡ letter_s) ⊎ BeginAgain g (take i list) x

-- At position i of the list stands the request x; the count before it is c; on the session that the list left before it, it comes to o.
pub record Position (g : List ℕ) (s : Session) (list : List Event) (i : ℕ) (x : Request) (c : ℕ) (o : Outcome) : Type 0 where
  pub sent : get_elem? list i ≡ some (question x)
  pub count : count_of g (arrivals (take i list)) ≡ c
  pub came : exchange (after s (take i list)) x.frame x.buffer ≡ o

-- The frame numbered k was accepted: the first forty bytes of its buffer are those that "Frames" gives for W_k with k steps
-- done, and the others are what they were.
pub record Answered (g : List ℕ) (t : List ℤ) (k : ℕ) (buffer : List ℕ) (o : Outcome) : Type 0 where
  pub reply : o.0.reply ≡ reply_at g t k
  pub bytes : take 40 o.1 ≡ answer_at g t k
  pub rest : drop 40 o.1 ≡ drop 40 buffer

-- The begin frame was accepted, first sent or again: its answer, and the session s after it.
pub record Began (g : List ℕ) (s : Session) (buffer : List ℕ) (o : Outcome) : Type 0 where
  pub reply : o.0.reply ≡ state_reply
  pub session : o.0.session ≡ s
  pub bytes : take 40 o.1 ≡ begin_answer g
  pub rest : drop 40 o.1 ≡ drop 40 buffer

-- The frame f was refused (document 01's "turned down") for a cause, in its own version: the session and the bytes past forty are what they
-- were, and so is a buffer under forty bytes.
pub record Rejected (cause : Cause) (s : Session) (f buffer : List ℕ) (o : Outcome) : Type 0 where
  pub reply : o.0.reply ≡ Refused cause
  pub session : o.0.session ≡ s
  pub short : length buffer < 40 → o.1 ≡ buffer
  pub bytes : 40 ≤ length buffer → take 40 o.1 ≡ header_for (is_second f) ++ (cause_number cause ∷ replicate 35 0)
  pub rest : drop 40 o.1 ≡ drop 40 buffer

-- In the list of the session s stands a frame numbered k, and what it came to holds the same forty bytes as o.
pub record SameAnswer (s : Session) (list : List Event) (k : ℕ) (o : Outcome) : Type 0 where
  pub at : ℕ
  pub other : Request
  pub sent : get_elem? list at ≡ some (question other)
  pub numbered : number_in other.frame ≡ k
  pub same : take 40 o.1 ≡ take 40 (exchange (after s (take at list)) other.frame other.buffer).1

-- c + 1, …, c + m
unfoldable pub numbers_after : ℕ → ℕ → List ℕ
numbers_after c zero = []
numbers_after c (suc m) = (c + 1) ∷ numbers_after (c + 1) m

-- the windows that those frames of a list leave which the count takes as the next step: right after each first acceptance
unfoldable pub firsts : List ℕ → ℕ → Session → List Event → List (List ℕ)
unfolding is_next next
firsts g c s [] = []
firsts g c s (question x ∷ l) =
    let s' = next s (question x) in
    cond (is_next g c (arrival x)) (s'.window ∷ firsts g (c + 1) s' l) (firsts g c s' l)
firsts g c s (level_file f ∷ l) = firsts g c (next s (level_file f)) l

-- Document 01's demand 3, where the begin frame g, first sent to the sessions R₀ and T₀, came to the outcomes r and t; then the reference
-- session got the list `ordered`, and the retried one the list `arrived`.
pub record ExactlyOnce (g : List ℕ) (R₀ T₀ : Session) (bufferR bufferT : List ℕ) (r t : Outcome) (ordered arrived : List Event) : Type 0 where
  -- 0. the begin frame gets its answer, leaves the round at its start with its copy, and keeps the table held
  pub began_reference : Began g (session_at g (copy_after R₀ g) R₀.held 0) bufferR r
  pub began_retried : Began g (session_at g (copy_after T₀ g) T₀.held 0) bufferT t
  -- 1. of the step frames, the retried session accepts just what the count accepts
  pub accepted_retried : {i : ℕ} {x : Request} {c : ℕ} {o : Outcome} → Position g t.0.session arrived i x c o →
      kind_in x.frame ≡ letter_s → accepted o.0.reply ≡ accepts g c (arrival x)
  -- 2. and answers it with the bytes for W_k, which are those that the reference session gave for k
  pub answered_retried : {i : ℕ} {x : Request} {c : ℕ} {o : Outcome} → Position g t.0.session arrived i x c o → accepts g c (arrival x) ≡ true →
      Answered g (copy_after T₀ g) (number_in x.frame) x.buffer o × SameAnswer r.0.session ordered (number_in x.frame) o
  pub answered_reference : {i : ℕ} {x : Request} {c : ℕ} {o : Outcome} → Position g r.0.session ordered i x c o →
      Answered g (copy_after R₀ g) (number_in x.frame) x.buffer o
  -- 3. any other step frame is refused for its cause, and leaves the session
  pub refused_retried : {i : ℕ} {x : Request} {c : ℕ} {o : Outcome} → Position g t.0.session arrived i x c o →
      kind_in x.frame ≡ letter_s → accepts g c (arrival x) ≡ false →
      Rejected (cause_at g c (arrival x)) (after t.0.session (take i arrived)) x.frame x.buffer o
  -- the begin frame again gets its answer again and leaves the session; without room for the answer it is refused for that
  pub again_retried : {i : ℕ} {x : Request} {c : ℕ} {o : Outcome} → Position g t.0.session arrived i x c o → x.frame ≡ g →
      40 ≤ length x.buffer → Began g (after t.0.session (take i arrived)) x.buffer o
  pub short_retried : {i : ℕ} {x : Request} {c : ℕ} {o : Outcome} → Position g t.0.session arrived i x c o → x.frame ≡ g →
      length x.buffer < 40 → Rejected ShortBuffer (after t.0.session (take i arrived)) x.frame x.buffer o
  -- 4. after i events, and after them all, the retried session stands at the count, which never exceeds a(n), and the reference session at
  -- the number of its frames; level files change the table held and nothing else; and such sessions have begun, whatever table is held
  pub count_within : (i : ℕ) → count_of g (arrivals (take i arrived)) ≤ round_of g
  pub end_within : count_of g (arrivals arrived) ≤ round_of g
  pub on_retried : (i : ℕ) → after t.0.session (take i arrived)
      ≡ session_at g (copy_after T₀ g) (held_after T₀.held (take i arrived)) (count_of g (arrivals (take i arrived)))
  pub end_retried : after t.0.session arrived
      ≡ session_at g (copy_after T₀ g) (held_after T₀.held arrived) (count_of g (arrivals arrived))
  pub on_reference : (i : ℕ) → after r.0.session (take i ordered)
      ≡ session_at g (copy_after R₀ g) (held_after R₀.held (take i ordered)) (length (questions (take i ordered)))
  pub begun_reference : (h : List ℤ) (k : ℕ) → k ≤ round_of g → has_begun (session_at g (copy_after R₀ g) h k) ≡ true
  pub begun_retried : (h : List ℤ) (k : ℕ) → k ≤ round_of g → has_begun (session_at g (copy_after T₀ g) h k) ≡ true
  -- so, at the count k after its list, the retried session's steps done are k, and they and its window are those of the reference session
  -- after k frames, wherever in its list that is
  pub done_retried : (after t.0.session arrived).done ≡ count_of g (arrivals arrived)
  pub reached : (i : ℕ) × (length (questions (take i ordered)) ≡ count_of g (arrivals arrived))
  pub same_done : (i : ℕ) → length (questions (take i ordered)) ≡ count_of g (arrivals arrived) →
      (after t.0.session arrived).done ≡ (after r.0.session (take i ordered)).done
  pub same_window : (i : ℕ) → length (questions (take i ordered)) ≡ count_of g (arrivals arrived) →
      (after t.0.session arrived).window ≡ (after r.0.session (take i ordered)).window
  -- 5. level files change no answer: the frames alone get the same buffers
  pub loads_reference : answers r.0.session ordered ≡ answers r.0.session (map question (questions ordered))
  pub loads_retried : answers t.0.session arrived ≡ answers t.0.session (map question (questions arrived))
  -- 6. W_1 … W_a(n) are the weak orders of n in the rule's form, each once, and the last is the start window; the reference session holds
  -- them in order after its frames, and so does the retried one right after each first acceptance, as far as the count came
  pub listing : Tour (WeakOrder (length_in g) (rule_in g)) (step (rule_of (rule_in g))) (round_of g) (start_of g)
  pub firsts_reference : firsts g 0 r.0.session ordered ≡ map (λ k. padded (window_after g k)) (numbers_after 0 (round_of g))
  pub firsts_retried : firsts g 0 t.0.session arrived ≡ map (λ k. padded (window_after g k)) (numbers_after 0 (count_of g (arrivals arrived)))

-- A begin frame was sent to two sessions, whatever they were, and accepted by both when first sent; where it asks for a table, the round's
-- copies that they then have are the same; then the two lists, with level files anywhere in either. A frame is made of bytes.
abbrev pub StepsExactlyOnce : Type 0
StepsExactlyOnce =
    (R₀ T₀ : Session) (g bufferR bufferT : List ℕ) (ordered arrived : List Event) → is_bytes g ≡ true → kind_in g ≡ letter_b →
    accepted (exchange R₀ g bufferR).0.reply ≡ true → accepted (exchange T₀ g bufferT).0.reply ≡ true →
    (takes_table g ≡ true → copy_after R₀ g ≡ copy_after T₀ g) →
    InOrder g (questions ordered) → FramesOf g arrived →
    ExactlyOnce g R₀ T₀ bufferR bufferT (exchange R₀ g bufferR) (exchange T₀ g bufferT) ordered arrived
