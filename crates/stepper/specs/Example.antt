-- Two instances of demand 3 and of the levels of a round, and each refusal met once: the round that document 01 prints, n = 2, rule 1, from 1,1,
-- top -1000, spacing 100; and the same on a table, with another loaded between two steps.
use Rattle.std.specs.Prelude.{true, false, List, [], ◌∷◌, ◌++◌, map, ◌≡◌, ℕ, ◌*◌, ℤ, pos, negsuc, ◌-ℤ◌, take, set, replicate}
use Rattle.std.proofs.Math.Option.{some}
use Prim.Native.Char.{code}
use Rattle.std.proofs.Math.ListN.{get_elem?}
use Rattle.weak_orders.specs.Window.{range}
use Rattle.refusals.specs.declared.Cause.{Cause}
use Rattle.refusals.specs.declared.Cause.TheVariants.{ShortBuffer, FrameLength, FrameHeader, FrameKind, ReservedByte, WindowLength}
use Rattle.refusals.specs.declared.Cause.TheVariants.{RuleNumber, NotWeakOrder, LevelSetting, NotBegun, StepNumber, RoundFinished, LevelFile}
use Rattle.levels.specs.Table.{no_table}
use Rattle.levels.specs.Level.{setting_of}
use Rattle.levels.specs.Levels.{Levels}
use Rattle.frames.specs.declared.answer.Reply.{Reply}
use Rattle.frames.specs.declared.answer.Reply.TheVariants.{Accepted, Refused}
use Rattle.frames.specs.Answer.{accepted, state_reply}
use Rattle.frames.specs.Fields.{ascii, bytes64}
use Rattle.frames.specs.Question.{number_in}
use Rattle.stepper.specs.declared.session.Session.{Session}
use Rattle.level_files.specs.LevelFile.{table_text}
use Rattle.stepper.specs.Exchange.{has_begun, fresh, accept, exchange, with_table, load_levels}
use Rattle.stepper.specs.ExactlyOnce.{round_of, count_of, Event, question, level_file, arrivals, next, answers, firsts, ExactlyOnce}

-- a B frame, an S frame numbered k < 256, a Q frame
unfoldable pub beginning : List ℕ
beginning =
    ascii "WKO1B" ++ (2 ∷ 1 ∷ 0 ∷ []) ++ replicate 8 0 ++ (24 ∷ 252 ∷ 100 ∷ 0 ∷ 0 ∷ 0 ∷ 0 ∷ 0 ∷ 1 ∷ 1 ∷ []) ++ replicate 14 0

unfoldable pub stepping : ℕ → List ℕ
stepping k = ascii "WKO1S" ++ (0 ∷ 0 ∷ 0 ∷ k ∷ []) ++ replicate 31 0

unfoldable pub asking : List ℕ
asking = ascii "WKO1Q" ++ replicate 35 0

-- a buffer of m sevens
unfoldable pub lent : ℕ → List ℕ
lent m = replicate m 7

abbrev pub sent : List ℕ → ℕ → Event
sent f m = question (record { frame = f; buffer = lent m })

-- the replies of a list of events, those to level files too
unfoldable pub replies : Session → List Event → List Reply
replies s [] = []
replies s (question x ∷ l) = (exchange s x.frame x.buffer).0.reply ∷ replies (next s (question x)) l
replies s (level_file f ∷ l) = (load_levels s f).reply ∷ replies (next s (level_file f)) l

unfoldable pub ordered : List Event
ordered = sent (stepping 1) 40 ∷ sent (stepping 2) 41 ∷ sent (stepping 3) 64 ∷ []

unfoldable pub arrived : List Event
arrived =
    sent (stepping 1) 42 ∷ sent (stepping 1) 40 ∷ sent (stepping 2) 39 ∷ sent (stepping 3) 40 ∷ sent (stepping 2 ++ (0 ∷ [])) 40
    ∷ sent (set (stepping 2) 2 (code "A")) 40 ∷ sent (set (stepping 2) 39 1) 40 ∷ sent (stepping 0) 40 ∷ sent (stepping 2) 40
    ∷ sent (stepping 3) 40 ∷ sent (stepping 4) 40 ∷ sent (stepping 3) 40 ∷ []

-- a session that no frame could have left
unfoldable pub odd : Session
odd =
    record {
      begun = 1;
      version = 2;
      round = 9;
      n = 200;
      rule = 9;
      setting = setting_of (negsuc 32767) 0;
      window = replicate 16 255;
      done = 77;
      held = replicate 16 (negsuc 32767);
    }

-- the sessions that the begin frame leaves
unfoldable pub left_reference : Session
left_reference = (exchange fresh beginning (lent 40)).0.session

unfoldable pub left_retried : Session
left_retried = (exchange odd beginning (lent 45)).0.session

unfoldable pub left_heights : Session
left_heights = (exchange fresh (set (set (set beginning 6 3) 24 0) 25 0) (lent 40)).0.session

-- the reference one with another spacing
unfoldable pub spaced : ℕ → Session
spaced d =
    record {
      begun = 1;
      version = 1;
      round = 0;
      n = 2;
      rule = 1;
      setting = setting_of (negsuc 999) d;
      window = 1 ∷ 1 ∷ replicate 14 0;
      done = 0;
      held = no_table;
    }

pub record Instance : Type 0 where
  pub round : round_of beginning ≡ 3
  pub accepted_reference : accepted (exchange fresh beginning (lent 40)).0.reply ≡ true
  pub accepted_retried : accepted (exchange odd beginning (lent 45)).0.reply ≡ true
  pub replied : replies left_retried arrived
      ≡ Accepted 2 (negsuc 1099) ∷ Accepted 2 (negsuc 1099) ∷ Refused ShortBuffer ∷ Refused StepNumber ∷ Refused FrameLength
      ∷ Refused FrameHeader ∷ Refused ReservedByte ∷ Refused StepNumber ∷ Accepted 1 (negsuc 999)
      ∷ Accepted 1 (negsuc 999) ∷ Refused RoundFinished ∷ Accepted 1 (negsuc 999) ∷ []
  pub count : count_of beginning (arrivals arrived) ≡ 3
  pub windows : map (take 2) (firsts beginning 0 left_retried arrived) ≡ (1 ∷ 2 ∷ []) ∷ (2 ∷ 1 ∷ []) ∷ (1 ∷ 1 ∷ []) ∷ []
  -- the buffers of the first, the third and the fourth frame
  pub answer : get_elem? (answers left_retried arrived) 0
      ≡ some (ascii "WKA1" ++ (0 ∷ 2 ∷ 2 ∷ 0 ∷ 1 ∷ []) ++ replicate 7 0
      ++ (180 ∷ 251 ∷ 255 ∷ 255 ∷ 0 ∷ 0 ∷ 0 ∷ 0 ∷ 1 ∷ 2 ∷ []) ++ replicate 14 0 ++ (7 ∷ 7 ∷ []))
  pub untouched : get_elem? (answers left_retried arrived) 2 ≡ some (replicate 39 7)
  pub refusal : get_elem? (answers left_retried arrived) 3 ≡ some (ascii "WKA1" ++ (11 ∷ []) ++ replicate 35 0)
  pub both : ExactlyOnce beginning fresh odd (lent 40) (lent 45) (exchange fresh beginning (lent 40)) (exchange odd beginning (lent 45)) ordered arrived
  pub levels : Levels left_reference.rule left_reference.setting (take left_reference.n left_reference.window)

-- Tables: two good ones, 2000, 1500, … and 0, -25, …; and one whose second level is its first.
unfoldable pub coarse : List ℤ
coarse = map (λ d. pos 2000 -ℤ pos (500 * d)) (range 16)

unfoldable pub fine : List ℤ
fine = map (λ d. pos 0 -ℤ pos (25 * d)) (range 16)

unfoldable pub flat : List ℤ
flat = set coarse 1 (pos 2000)

-- sessions that hold the first: a fresh one into which it was loaded, and one that no frame could have left
unfoldable pub holding : Session
holding = with_table fresh coarse

unfoldable pub odd_holding : Session
odd_holding =
    record {
      begun = 9;
      version = 9;
      round = 9;
      n = 200;
      rule = 9;
      setting = setting_of (pos 0) 0;
      window = replicate 16 255;
      done = 77;
      held = coarse;
    }

-- the begin frame with top 0 and spacing 0, and the sessions that it leaves
unfoldable pub beginning_on_table : List ℕ
beginning_on_table = set (set (set beginning 16 0) 17 0) 18 0

unfoldable pub left_holding : Session
left_holding = (exchange holding beginning_on_table (lent 40)).0.session

unfoldable pub left_odd : Session
left_odd = (exchange odd_holding beginning_on_table (lent 40)).0.session

unfoldable pub ordered_loads : List Event
ordered_loads = sent (stepping 1) 40 ∷ level_file (table_text fine) ∷ sent (stepping 2) 40 ∷ sent (stepping 3) 40 ∷ []

unfoldable pub arrived_loads : List Event
arrived_loads =
    sent (stepping 1) 40 ∷ level_file (table_text fine) ∷ sent (stepping 1) 40 ∷ level_file [] ∷ sent (stepping 2) 40 ∷ sent (stepping 3) 40 ∷ []

-- a round on a table: levels come from its copy, whatever is loaded later
pub record TableInstance : Type 0 where
  pub loads : load_levels fresh (table_text coarse) ≡ accept holding
  pub accepted_reference : accepted (exchange holding beginning_on_table (lent 40)).0.reply ≡ true
  pub accepted_retried : accepted (exchange odd_holding beginning_on_table (lent 40)).0.reply ≡ true
  pub replied : replies left_odd arrived_loads
      ≡ Accepted 2 (pos 1500) ∷ state_reply ∷ Accepted 2 (pos 1500) ∷ Refused LevelFile ∷ Accepted 1 (pos 2000) ∷ Accepted 1 (pos 2000) ∷ []
  pub both : ExactlyOnce beginning_on_table holding odd_holding (lent 40) (lent 40) (exchange holding beginning_on_table (lent 40))
      (exchange odd_holding beginning_on_table (lent 40)) ordered_loads arrived_loads
  pub levels : Levels left_holding.rule left_holding.setting (take left_holding.n left_holding.window)

-- a session on a table as a device may have kept it: version and round number, the round's copy, and the table held; and one of a WKO1 round
unfoldable pub kept_in : ℕ → ℕ → List ℤ → List ℤ → Session
kept_in version round copy held =
    record {
      begun = 1;
      version = version;
      round = round;
      n = 2;
      rule = 1;
      setting = record { top = pos 0; spacing = 0; table = copy };
      window = 1 ∷ 1 ∷ replicate 14 0;
      done = 0;
      held = held;
    }

unfoldable pub kept : List ℤ → List ℤ → Session
kept = kept_in 1 0

-- what is judged by the table held, and what by the copy
pub record Tables : Type 0 where
  -- a begin frame is refused where no table is held, where the one held is none, and where the top is not 0
  pub none_held : (exchange fresh beginning_on_table (lent 40)).0.reply ≡ Refused LevelSetting
  pub bad_held : (exchange (kept coarse flat) beginning_on_table (lent 40)).0.reply ≡ Refused LevelSetting
  pub other_top : (exchange holding (set beginning_on_table 16 25) (lent 40)).0.reply ≡ Refused LevelSetting
  -- a round counts as begun by its copy alone
  pub begun : (has_begun (kept coarse no_table) ≡ true) × (has_begun (kept coarse flat) ≡ true) × (has_begun (kept flat coarse) ≡ false)
  pub by_copy : (exchange (kept coarse fine) (stepping 1) (lent 40)).0.reply ≡ Accepted 2 (pos 1500)
  -- a begin frame with even spacing keeps the table held, and leaves no copy
  pub even : ((exchange left_holding beginning (lent 40)).0.session.held ≡ coarse)
      × ((exchange left_holding beginning (lent 40)).0.session.setting.table ≡ no_table)

-- the reply to a frame, by a fresh session and by the one that the begin frame leaves
unfoldable pub reply_to : List ℕ → Reply
reply_to f = (exchange fresh f (lent 40)).0.reply

unfoldable pub reply_later : List ℕ → Reply
reply_later f = (exchange left_reference f (lent 40)).0.reply

-- the begin frame with one byte changed, and what it is refused for
abbrev pub Refuses : List (ℕ × ℕ) → Cause → Type 0
Refuses changes cause =
    map (λ (x : ℕ × ℕ). reply_to (set beginning x.0 x.1)) changes ≡ map (λ (x : ℕ × ℕ). Refused cause) changes

-- numbers of eight bytes, and levels in height form
pub record Fields : Type 0 where
  pub number : number_in (replicate 8 0 ++ (1 ∷ 2 ∷ 3 ∷ 4 ∷ 5 ∷ 6 ∷ 7 ∷ 8 ∷ [])) ≡ 578437695752307201
  pub bytes : bytes64 578437695752307201 ≡ 1 ∷ 2 ∷ 3 ∷ 4 ∷ 5 ∷ 6 ∷ 7 ∷ 8 ∷ []
  -- rule 3 appends 1 to 0,0, one spacing below the top
  pub heights : (exchange left_heights (stepping 1) (lent 40)).0.reply ≡ Accepted 1 (negsuc 1099)

pub record Refusals : Type 0 where
  pub header : Refuses ((0, 0) ∷ (1, 0) ∷ (2, code "A") ∷ (3, code "3") ∷ []) FrameHeader
  pub kind : Refuses ((4, 0) ∷ (4, code "b") ∷ []) FrameKind
  -- with a 2 at 3 it is of the second version, and has no round number
  pub reserved : Refuses ((3, code "2") ∷ (7, 1) ∷ (8, 1) ∷ (15, 1) ∷ (20, 1) ∷ (23, 1) ∷ []) ReservedByte
  pub length : Refuses ((5, 0) ∷ (5, 17) ∷ (5, 255) ∷ []) WindowLength
  pub rule : Refuses ((6, 0) ∷ (6, 4) ∷ []) RuleNumber
  pub window : Refuses ((24, 0) ∷ (25, 3) ∷ (26, 1) ∷ (39, 1) ∷ (6, 2) ∷ []) NotWeakOrder
  -- top -32744, 31768 and -10216; spacing 0, 24 and 612
  pub setting : Refuses ((17, 128) ∷ (17, 124) ∷ (17, 216) ∷ (18, 0) ∷ (18, 24) ∷ (19, 2) ∷ []) LevelSetting
  -- and a session that holds such a spacing counts as not begun
  pub held : map (λ (d : ℕ). has_begun (spaced d)) (24 ∷ 25 ∷ []) ≡ false ∷ true ∷ []
  pub not_begun : (reply_to (stepping 1) ≡ Refused NotBegun) × (reply_to asking ≡ Refused NotBegun)
  pub kinds : (reply_to beginning ≡ state_reply) × (reply_later (stepping 1) ≡ Accepted 2 (negsuc 1099)) × (reply_later asking ≡ state_reply)
  pub reserved_S : map (λ (i : ℕ). reply_later (set (stepping 1) i 1)) (5 ∷ 7 ∷ 16 ∷ 39 ∷ []) ≡ replicate 4 (Refused ReservedByte)
  pub reserved_Q : map (λ (i : ℕ). reply_later (set asking i 1)) (5 ∷ 8 ∷ 39 ∷ []) ≡ replicate 3 (Refused ReservedByte)
