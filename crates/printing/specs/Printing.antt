-- What is printed (document 01, "The printed round"): a line for each step of the round, or the refusal.
use Rattle.std.specs.Prelude.{cond, List, [], ◌++◌, ℕ, zero, suc, ◌+◌, ◌-◌, leb, ltb, ℤ, pos, length, take, drop, replicate, Result, Ok, Err}
use Rattle.weak_orders.specs.Window.{iter, padded}
use Rattle.ranking.specs.Counts.{a}
use Rattle.successors.specs.NextSymbol.{steppable}
use Rattle.successors.specs.Rules.{rule_of, step}
use Rattle.refusals.specs.Numbers.{cause_number}
use Rattle.levels.specs.declared.Setting.{Setting}
use Rattle.levels.specs.Level.{setting_of, level_of}
use Rattle.frames.specs.Fields.{ascii}
use Rattle.frames.specs.Answer.{newest}
use Rattle.sheets.specs.declared.judge.Round.{Round}
use Rattle.refusals.specs.declared.Cause.{Cause}
use Rattle.printing.specs.declared.Printing.{Printing}
use Rattle.printing.specs.declared.Page.{Page}
use Rattle.decimals.specs.Text.{decimal, signed, joined}
use Rattle.sheets.specs.Judgement.{judged_text}

-- ---- the text

-- a line: step number, symbol appended, level, window after; single spaces, and a line feed at the end
unfoldable pub line_text : ℕ → ℕ → ℤ → List ℕ → List ℕ
line_text k symbol level w =
    (decimal k ++ ascii " ") ++ ((decimal symbol ++ ascii " ") ++ ((signed level ++ ascii " ") ++ (joined w ++ ascii "\n")))

-- the line of the window w after k steps: the symbol appended is its newest
unfoldable pub step_line : ℕ → ℕ → Setting → List ℕ → List ℕ
step_line k rule setting w = line_text k (newest w) (level_of rule setting (newest w)) w

-- the line of step k of a round
unfoldable pub round_line : Round → ℕ → List ℕ
round_line r k = step_line k r.rule r.setting (iter (step (rule_of r.rule)) k (take r.n r.window))

-- the lines of steps 1 to k
unfoldable pub round_lines : Round → ℕ → List ℕ
round_lines r zero = []
round_lines r (suc k) = round_lines r k ++ round_line r (suc k)

-- step symbol level window
abbrev pub heading : List ℕ
heading = ascii "step symbol level window\n"

-- the line refused
abbrev pub refused_line : List ℕ
refused_line = ascii "refused\n"

unfoldable pub opening_text : {A : Type 0} → Result A Cause → List ℕ
opening_text (Ok _) = heading
opening_text (Err cause) = refused_line ++ (decimal (cause_number cause) ++ ascii "\n")

-- how many steps are printed: a(n) where the sheet is accepted
unfoldable pub steps_of : Result Round Cause → ℕ
steps_of (Ok round) = a round.n
steps_of (Err cause) = 0

-- the lines of a round; a refused sheet has none
unfoldable pub lines_of : Result Round Cause → List ℕ
lines_of (Ok round) = round_lines round (a round.n)
lines_of (Err cause) = []

-- all that is printed for the text of a sheet
unfoldable pub printed_text : List ℕ → List ℕ
printed_text s = let j = judged_text s in opening_text j ++ lines_of j

-- ---- in pages

-- before the first line. There are no windows of more than 16 symbols, and so no lines; nor are there where the sheet is refused
abbrev pub line_count : ℕ → ℕ
line_count n = cond (leb n 16) (a n) 0

-- the round of a refused sheet
abbrev pub no_round : Round
no_round = record { n = 0; rule = 0; setting = setting_of (pos 0) 0; window = replicate 16 0 }

unfoldable pub started : Result Round Cause → Printing
started (Ok r) = record { round = r; done = 0; last = line_count r.n }
started (Err cause) = record { round = no_round; done = 0; last = 0 }

-- one step further
unfoldable pub onward : Printing → Printing
onward p =
    let r = p.round in
    record {
      round = record { n = r.n; rule = r.rule; setting = r.setting; window = padded (step (rule_of r.rule) (take r.n r.window)) };
      done = p.done + 1;
      last = p.last;
    }

-- the line of the step made last
unfoldable pub last_line : Printing → List ℕ
last_line p = step_line p.done p.round.rule p.round.setting (take p.round.n p.round.window)

-- what a page holds, and where it leaves off
abbrev pub Printed : Type 0
Printed = Printing × List ℕ

unfoldable pub below : List ℕ → Printed → Printed
below line (p, text) = (p, line ++ text)

-- up to so many lines while there are 128 bytes of room, which any line fits in
unfoldable pub page_of : ℕ → ℕ → Printing → Printed
page_of zero room p = (p, [])
page_of (suc left) room p =
    let q = onward p in
    cond (ltb room 128) (p, []) (below (last_line q) (page_of left (room - length (last_line q)) q))

-- a text over the front of a buffer; what lies behind stays
unfoldable pub over : List ℕ → List ℕ → List ℕ
over text buffer = text ++ drop (length text) buffer

-- the next page in a buffer. A state with no window in its rule's form stays as it is
unfoldable pub page_in : ℕ → Printing → Printed
page_in room p = cond (steppable p.round.rule p.round.n p.round.window) (page_of (p.last - p.done) room p) (p, [])

unfoldable pub laid_out : Printed → List ℕ → Page × List ℕ
laid_out (p, text) buffer = (record { printing = p; len = length text }, over text buffer)

unfoldable pub next_page : Printing → List ℕ → Page × List ℕ
next_page p buffer = laid_out (page_in (length buffer) p) buffer

-- the opening in a buffer of 128 bytes or more
unfoldable pub opening : {A : Type 0} → Result A Cause → List ℕ → ℕ × List ℕ
opening x buffer = cond (ltb (length buffer) 128) (0, buffer) (length (opening_text x), over (opening_text x) buffer)
