-- The second version by example (document 02, Paper 6): an instance of demand 3, and its refusals. The round is that of Example, numbered 5.
use Rattle.std.specs.Prelude.{true, false, List, [], ◌∷◌, ◌++◌, map, ◌≡◌, ℕ, pos, set, replicate}
use Prim.Native.Char.{code}
use Rattle.refusals.specs.declared.Cause.TheVariants.{ShortBuffer, ReservedByte, WindowLength, RuleNumber}
use Rattle.refusals.specs.declared.Cause.TheVariants.{NotWeakOrder, LevelSetting, NotBegun, StepNumber, OtherVersion, OtherRound, RoundInForce}
use Rattle.levels.specs.Table.{no_table}
use Rattle.frames.specs.declared.answer.Reply.{Reply}
use Rattle.frames.specs.declared.answer.Reply.TheVariants.{Accepted, Refused}
use Rattle.frames.specs.Answer.{accepted, state_reply}
use Rattle.frames.specs.Fields.{ascii}
use Rattle.level_files.specs.LevelFile.{table_text}
use Rattle.stepper.specs.declared.session.Session.{Session}
use Rattle.stepper.specs.Exchange.{has_begun, fresh, exchange}
use Rattle.stepper.specs.ExactlyOnce.{count_of, Event, level_file, arrivals, copy_after, ExactlyOnce}
use Rattle.stepper.specs.Example.{beginning, stepping, asking, lent, sent, replies, coarse, fine, flat, holding, beginning_on_table, kept_in}

-- a frame in the second version, with the round number r; a query has none
unfoldable pub second : ℕ → List ℕ → List ℕ
second r f = set (set f 3 (code "2")) 7 r

-- the begin frame on a table, and a session in which it is in force, with another table held
unfoldable pub beginning_second : List ℕ
beginning_second = second 5 beginning_on_table

unfoldable pub in_force_already : Session
in_force_already = kept_in 2 5 coarse flat

unfoldable pub ordered_second : List Event
ordered_second = sent (second 5 (stepping 1)) 40 ∷ sent (second 5 (stepping 2)) 40 ∷ sent (second 5 (stepping 3)) 40 ∷ []

-- the begin frame again twice with a level file between, then into 39 bytes; a step in the first version, and one of another round; the round
unfoldable pub arrived_second : List Event
arrived_second =
    sent beginning_second 40 ∷ level_file (table_text fine) ∷ sent beginning_second 41 ∷ sent beginning_second 39 ∷ sent (stepping 1) 40
    ∷ sent (second 6 (stepping 1)) 40 ∷ sent (second 5 (stepping 1)) 40 ∷ sent (second 5 (stepping 2)) 40 ∷ sent (second 5 (stepping 3)) 40 ∷ []

pub record SecondInstance : Type 0 where
  pub accepted_reference : accepted (exchange holding beginning_second (lent 40)).0.reply ≡ true
  pub accepted_retried : accepted (exchange in_force_already beginning_second (lent 40)).0.reply ≡ true
  -- the first session takes a copy of the table that it holds; the other keeps its own
  pub copies : (copy_after holding beginning_second ≡ coarse) × (copy_after in_force_already beginning_second ≡ coarse)
  pub replied : replies in_force_already arrived_second
      ≡ state_reply ∷ state_reply ∷ state_reply ∷ Refused ShortBuffer ∷ Refused OtherVersion ∷ Refused OtherRound ∷ Accepted 2 (pos 1500)
      ∷ Accepted 1 (pos 2000) ∷ Accepted 1 (pos 2000) ∷ []
  pub count : count_of beginning_second (arrivals arrived_second) ≡ 3
  pub both : ExactlyOnce beginning_second holding in_force_already (lent 40) (lent 40) (exchange holding beginning_second (lent 40))
      (exchange in_force_already beginning_second (lent 40)) ordered_second arrived_second

-- the buffer of forty bytes after a frame
unfoldable pub answer_of : Session → List ℕ → List ℕ
answer_of s f = (exchange s f (lent 40)).1

-- the reply to a frame, by a session in which round 5 is in force, with no step done and with one
unfoldable pub reply_in : List ℕ → Reply
reply_in f = (exchange (kept_in 2 5 coarse coarse) f (lent 40)).0.reply

unfoldable pub reply_stepped : List ℕ → Reply
reply_stepped f =
    (exchange (exchange (kept_in 2 5 coarse coarse) (second 5 (stepping 1)) (lent 40)).0.session f (lent 40)).0.reply

pub record SecondRefusals : Type 0 where
  -- the bytes of answers: a begin frame's, a query's, and those to refused frames, which have no round number; 2 and 3 are WKA1's
  pub begun : answer_of fresh (second 5 beginning) ≡ ascii "WKA2" ++ (0 ∷ 0 ∷ 1 ∷ 5 ∷ []) ++ replicate 16 0 ++ (1 ∷ 1 ∷ []) ++ replicate 14 0
  pub asked : answer_of (kept_in 2 5 coarse no_table) (set asking 3 (code "2"))
      ≡ ascii "WKA2" ++ (0 ∷ 0 ∷ 1 ∷ 5 ∷ []) ++ replicate 16 0 ++ (1 ∷ 1 ∷ []) ++ replicate 14 0
  pub kind : answer_of fresh (set (second 5 beginning) 4 0) ≡ ascii "WKA2" ++ (4 ∷ []) ++ replicate 35 0
  pub length : answer_of fresh (second 5 beginning ++ (0 ∷ [])) ≡ ascii "WKA1" ++ (2 ∷ []) ++ replicate 35 0
  pub header : answer_of fresh (set (second 5 beginning) 3 (code "3")) ≡ ascii "WKA1" ++ (3 ∷ []) ++ replicate 35 0
  -- test 5: a round number in WKO2, none in WKO1, and none in a query
  pub no_number : (reply_in (second 0 beginning) ≡ Refused ReservedByte) × (reply_in (second 0 (stepping 1)) ≡ Refused ReservedByte)
  pub number : (reply_in (set beginning 7 5) ≡ Refused ReservedByte) × (reply_in (set (stepping 1) 7 5) ≡ Refused ReservedByte)
      × (reply_in (second 5 asking) ≡ Refused ReservedByte)
  -- a WKO2 round numbered 0 has not begun; any version but 2 is WKO1, whatever the number
  pub begun_as : map (λ (x : ℕ × ℕ). has_begun (kept_in x.0 x.1 coarse no_table)) ((2, 0) ∷ (2, 1) ∷ (1, 0) ∷ (0, 9) ∷ (255, 0) ∷ [])
      ≡ false ∷ true ∷ true ∷ true ∷ true ∷ []
  pub first : (exchange (kept_in 0 9 coarse no_table) (stepping 1) (lent 40)).0.reply ≡ Accepted 2 (pos 1500)
  -- 10 before 17, 17 before 18, 18 before 11
  pub not_begun : (exchange fresh (second 5 (stepping 1)) (lent 40)).0.reply ≡ Refused NotBegun
  pub other_version : (reply_in (stepping 9) ≡ Refused OtherVersion) × (reply_in asking ≡ Refused OtherVersion)
      × ((exchange (kept_in 1 0 coarse no_table) (second 5 (stepping 1)) (lent 40)).0.reply ≡ Refused OtherVersion)
  pub other_round : reply_in (second 6 (stepping 9)) ≡ Refused OtherRound
  pub numbered : reply_in (second 5 (stepping 9)) ≡ Refused StepNumber
  -- the begin frame again changes nothing; another with its number is 19, behind 6 to 9; with another number, or in WKO1, it begins
  pub again : reply_in beginning_second ≡ state_reply
  pub taken : (reply_in (second 5 beginning) ≡ Refused RoundInForce) × (reply_stepped beginning_second ≡ Refused RoundInForce)
  pub behind : (reply_in (set beginning_second 5 0) ≡ Refused WindowLength) × (reply_in (set beginning_second 6 4) ≡ Refused RuleNumber)
      × (reply_in (set beginning_second 24 0) ≡ Refused NotWeakOrder) × (reply_in (set beginning_second 16 1) ≡ Refused LevelSetting)
  pub free : (reply_in (second 6 beginning) ≡ state_reply) × (reply_in beginning ≡ state_reply)
      × ((exchange (kept_in 1 5 coarse no_table) (second 5 beginning) (lent 40)).0.reply ≡ state_reply)
  -- test 9 of the begin frame again is by the copy, and of any other by the table held; where the copy is bad nothing is in force
  pub by_copy : (exchange (kept_in 2 5 coarse no_table) beginning_second (lent 40)).0.reply ≡ state_reply
  pub by_held : (exchange (exchange (kept_in 2 5 coarse no_table) (second 5 (stepping 1)) (lent 40)).0.session beginning_second (lent 40)).0.reply
      ≡ Refused LevelSetting
  pub bad_copy : (exchange (kept_in 2 5 flat coarse) beginning_second (lent 40)).0.session ≡ kept_in 2 5 coarse coarse
