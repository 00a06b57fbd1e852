-- What a frame does to a session and to the buffer lent for its answer (document 01, "Frames" and "Turned down"), and what a level file does
-- to a session (document 02, Papers 4 and 6).
use Rattle.std.specs.Prelude.{Bool, true, false, cond, not, ◌&&◌, ◌||◌, List, ◌++◌, ℕ, ◌+◌, leb, ltb, eqb, ℤ, pos, length, take, drop, replicate}
use Rattle.std.proofs.Math.Option.{Option, none, some}
use Rattle.weak_orders.specs.Window.{different, is_length, padded}
use Rattle.ranking.specs.Counts.{a}
use Rattle.successors.specs.Rules.{rule_of, in_form, is_rule, step}
use Rattle.refusals.specs.declared.Cause.{Cause}
use Rattle.refusals.specs.declared.Cause.TheVariants.{ShortBuffer, FrameLength, FrameHeader, FrameKind, ReservedByte, WindowLength}
use Rattle.refusals.specs.declared.Cause.TheVariants.{RuleNumber, NotWeakOrder, LevelSetting, NotBegun, StepNumber, RoundFinished, LevelFile}
use Rattle.refusals.specs.declared.Cause.TheVariants.{OtherVersion, OtherRound, RoundInForce}
use Rattle.frames.specs.declared.answer.Reply.{Reply}
use Rattle.frames.specs.declared.answer.Reply.TheVariants.{Refused}
use Rattle.frames.specs.Fields.{zeros, same_bytes}
use Rattle.levels.specs.Table.{no_table}
use Rattle.levels.specs.Level.{setting_of, setting_ok}
use Rattle.frames.specs.Question.{is_question, kind_in, letter_b, letter_s, letter_q, length_in, rule_in, number_in, setting_in, window_in, takes_table}
use Rattle.frames.specs.Question.{is_second, round_number_in, reserved_b, reserved_s, reserved_q, begin_bytes}
use Rattle.frames.specs.Answer.{accepted, answer_bytes, step_reply, state_reply}
use Rattle.level_files.specs.LevelFile.{read_table}
use Rattle.stepper.specs.declared.session.Exchanged.{Exchanged}
use Rattle.stepper.specs.declared.session.Session.{Session}

-- what test 8 asks of sixteen bytes: the first n are a weak order in the rule's form, and the others are zero
unfoldable pub window_ok : ℕ → ℕ → List ℕ → Bool
unfolding in_form zeros
window_ok n rule w = in_form rule (take n w) && zeros (drop n w)

-- the reply to a B for the round that the session holds: tests 6 to 9, where `formed` says whether its window is in the rule's form. Test 9
-- of a round on a table looks at the round's own copy, and not at the table held
unfoldable pub reply_if : Session → Bool → Reply
unfolding is_length is_rule zeros setting_ok
reply_if s formed =
    cond (not (is_length s.n)) (Refused WindowLength) (
    cond (not (is_rule s.rule)) (Refused RuleNumber) (
    cond (not (formed && zeros (drop s.n s.window))) (Refused NotWeakOrder) (
    cond (not (setting_ok s.n s.setting)) (Refused LevelSetting)
    state_reply)))

unfoldable pub begin_reply : Session → Reply
unfolding in_form reply_if
begin_reply s = reply_if s (in_form s.rule (take s.n s.window))

-- the round is a WKO2 one: its version is 2, and any other is WKO1
unfoldable pub in_second : Session → Bool
in_second s = eqb s.version 2

-- a WKO2 round has a number from 1 on; in a WKO1 round the number counts nowhere
unfoldable pub is_numbered : Session → Bool
unfolding in_second
is_numbered s = not (in_second s && eqb s.round 0)

-- a session that would get a B refused, or whose steps done exceed a(n), counts as not begun; so does one whose first byte is not 1, and one
-- whose WKO2 round is numbered 0 (Paper 6)
unfoldable pub begun_if : Session → Bool → Bool
unfolding accepted reply_if a is_numbered
begun_if s formed = eqb s.begun 1 && (accepted (reply_if s formed) && (leb s.done (a s.n) && is_numbered s))

unfoldable pub has_begun : Session → Bool
unfolding in_form begun_if
has_begun s = begun_if s (in_form s.rule (take s.n s.window))

-- a fresh session has not begun, and holds no table
unfoldable pub fresh : Session
fresh =
    record {
      begun = 0;
      version = 1;
      round = 0;
      n = 0;
      rule = 0;
      setting = setting_of (pos 0) 0;
      window = replicate 16 0;
      done = 0;
      held = no_table;
    }

-- a refusal leaves the session
abbrev pub refuse : Session → Cause → Exchanged
refuse s cause = record { session = s; reply = Refused cause }

-- an accepted B or Q, and a level file: the session that it leaves, no symbol and no level
abbrev pub accept : Session → Exchanged
accept s = record { session = s; reply = state_reply }

-- the copy that the round of a B gets of the table held: the table itself if the B asks for it, otherwise none
unfoldable pub table_for : List ℕ → List ℤ → List ℤ
unfolding takes_table
table_for f held = cond (takes_table f) held no_table

-- the version of a session whose round is a WKO2 one, or a WKO1 one
abbrev pub version_of : Bool → ℕ
version_of second = cond second 2 1

-- the session that an accepted B leaves, where it does not begin the round in force again: of what was there before, only the table held
unfoldable pub round_in : List ℕ → List ℤ → Session
unfolding is_second setting_in window_in table_for
round_in f held =
    record {
      begun = 1;
      version = version_of (is_second f);
      round = round_number_in f;
      n = length_in f;
      rule = rule_in f;
      setting = setting_in f (table_for f held);
      window = window_in f;
      done = 0;
      held = held;
    }

-- a WKO2 round is in force: the session counts as begun, in that version
unfoldable pub in_force : Session → Bool
unfolding has_begun in_second
in_force s = has_begun s && in_second s

-- the forty bytes of the B that began it, as long as no step is done
unfoldable pub begun_by : Session → List ℕ
unfolding begin_bytes
begun_by s = begin_bytes true s.n s.rule s.round s.setting s.window

-- "a WKO2 B with all bytes equal to the one in force, with no step done" (Paper 6), where `force` says whether a WKO2 round is in force
unfoldable pub again_if : Session → Bool → List ℕ → Bool
unfolding begun_by same_bytes
again_if s force f = force && (eqb s.done 0 && same_bytes f (begun_by s))

unfoldable pub is_again : Session → List ℕ → Bool
unfolding in_force again_if
is_again s f = again_if s (in_force s) f

-- "WKO2 B with the round number of the WKO2 round in force" (Paper 6)
unfoldable pub takes_if : Session → Bool → List ℕ → Bool
unfolding is_second
takes_if s force f = force && (is_second f && eqb (round_number_in f) s.round)

unfoldable pub takes_number : Session → List ℕ → Bool
unfolding in_force takes_if
takes_number s f = takes_if s (in_force s) f

-- a B that begins a new round: tests 6 to 9, where 9 looks at the table held, and 19
unfoldable pub begin_anew : Session → List ℕ → Exchanged
unfolding accepted begin_reply round_in takes_number
begin_anew s f =
    let round = round_in f s.held in
    let reply = begin_reply round in
    cond (not (accepted reply)) (record { session = s; reply = reply }) (
    cond (takes_number s f) (refuse s RoundInForce)
    (record { session = round; reply = reply }))

-- B, from test 5 on. The B in force again changes nothing and gets its answer: 6 to 9 hold, and 9 of the round's copy, because the session
-- has begun
unfoldable pub begin_frame : Session → List ℕ → Exchanged
unfolding reserved_b is_again begin_anew
begin_frame s f =
    cond (not (reserved_b f)) (refuse s ReservedByte) (
    cond (is_again s f) (accept s)
    (begin_anew s f))

-- the window stepped once, and one more step done
unfoldable pub onward : Session → Session
unfolding padded rule_of step
onward s =
    record {
      begun = s.begun;
      version = s.version;
      round = s.round;
      n = s.n;
      rule = s.rule;
      setting = s.setting;
      window = padded (step (rule_of s.rule) (take s.n s.window));
      done = s.done + 1;
      held = s.held;
    }

-- an accepted S left the session s: a step and its resends get the same answer
unfoldable pub stepped : Session → Exchanged
unfolding step_reply
stepped s = record { session = s; reply = step_reply s.rule s.setting (take s.n s.window) }

-- both are the second version, or neither is
unfoldable pub same_version : Bool → Bool → Bool
same_version true second = second
same_version false second = not second

-- test 10 comes before what else a frame comes to
unfoldable pub if_begun : Session → Exchanged → Exchanged
unfolding has_begun
if_begun s x = cond (not (has_begun s)) (refuse s NotBegun) x

-- test 17 comes before what else an S or Q comes to, of the second version or the first
unfoldable pub if_version : Session → Bool → Exchanged → Exchanged
unfolding same_version in_second
if_version s second x = cond (not (same_version second (in_second s))) (refuse s OtherVersion) x

-- S numbered k of the round that the session holds, tests 11 and 12: k = done + 1 steps, k = done ≥ 1 is a resend
unfoldable pub step_numbered : Session → ℕ → Exchanged
unfolding a onward stepped
step_numbered s k =
    cond (eqb k 0 || not (eqb k s.done || eqb k (s.done + 1))) (refuse s StepNumber) (
    cond (eqb k (s.done + 1) && eqb s.done (a s.n)) (refuse s RoundFinished) (
    stepped (cond (eqb k (s.done + 1)) (onward s) s)))

-- S numbered k, of the second version or the first, with the round number r: tests 10, 17, 18, then 11 and 12. A WKO1 frame has no round number
unfoldable pub step_of : Session → Bool → ℕ → ℕ → Exchanged
unfolding if_begun if_version step_numbered
step_of s second r k =
    if_begun s (
    if_version s second (
    cond (second && not (eqb r s.round)) (refuse s OtherRound)
    (step_numbered s k)))

-- Q, of the second version or the first: tests 10 and 17
unfoldable pub query_of : Session → Bool → Exchanged
unfolding if_begun if_version
query_of s second = if_begun s (if_version s second (accept s))

-- S and Q, from test 5 on
unfoldable pub step_frame : Session → List ℕ → Exchanged
unfolding reserved_s is_second number_in step_of
step_frame s f = cond (not (reserved_s f)) (refuse s ReservedByte) (step_of s (is_second f) (round_number_in f) (number_in f))

unfoldable pub query_frame : Session → List ℕ → Exchanged
unfolding reserved_q is_second query_of
query_frame s f = cond (not (reserved_q f)) (refuse s ReservedByte) (query_of s (is_second f))

-- a frame whose answer has room: tests 2 to 4, then by kind
unfoldable pub handle : Session → List ℕ → Exchanged
unfolding is_question begin_frame step_frame query_frame
handle s f =
    cond (not (eqb (length f) 40)) (refuse s FrameLength) (
    cond (not (is_question f)) (refuse s FrameHeader) (
    cond (eqb (kind_in f) letter_b) (begin_frame s f) (
    cond (eqb (kind_in f) letter_s) (step_frame s f) (
    cond (eqb (kind_in f) letter_q) (query_frame s f)
    (refuse s FrameKind)))))

-- the answer to a frame, of the second version or another: its reply, with the round number of a WKO2 round, the steps done and the window
-- that it left, zero filled
unfoldable pub answer_to : Bool → Exchanged → List ℕ
unfolding answer_bytes different padded
answer_to second x =
    let w = take x.session.n x.session.window in
    answer_bytes second (cond second x.session.round 0) x.reply (different w) x.session.done (padded w)

-- the session and the reply, and the whole buffer after the frame
abbrev pub Outcome : Type 0
Outcome = Exchanged × List ℕ

-- any frame into any buffer, from test 1 on: a buffer under 40 bytes stays whole, and so do the bytes past 40
unfoldable pub exchange : Session → List ℕ → List ℕ → Outcome
unfolding is_second handle answer_to
exchange s f buffer =
    cond (ltb (length buffer) 40) (refuse s ShortBuffer, buffer)
    (handle s f, answer_to (is_second f) (handle s f) ++ drop 40 buffer)

-- a table that is loaded replaces the one held, and nothing else changes
unfoldable pub with_table : Session → List ℤ → Session
with_table s t =
    record {
      begun = s.begun;
      version = s.version;
      round = s.round;
      n = s.n;
      rule = s.rule;
      setting = s.setting;
      window = s.window;
      done = s.done;
      held = t;
    }

-- a level file: one that is not as described is refused, and leaves the session
unfoldable pub loaded : Session → Option (List ℤ) → Exchanged
unfolding with_table
loaded s (some t) = accept (with_table s t)
loaded s none = refuse s LevelFile

unfoldable pub load_levels : Session → List ℕ → Exchanged
unfolding loaded read_table
load_levels s file = loaded s (read_table file)
