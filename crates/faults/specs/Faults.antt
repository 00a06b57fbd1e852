-- What is wrong with a sheet (document 01, "The printed round"), finer than the number of its refusal.
use Rattle.std.specs.Prelude.{Bool, false, cond, not, ◌&&◌, ◌||◌, List, [], ◌∷◌, ℕ, ◌-◌, leb, ltb, eqb, ℤ, length, Option, Some, None, Result, Ok, Err}
use Rattle.std.proofs.Math.Option.{Option as Maybe, none, some}
use Prim.Native.Char.{code}
use Rattle.refusals.specs.Numbers.{cause_number}
use Rattle.refusals.specs.declared.Cause.{Cause}
use Rattle.frames.specs.Fields.{byte}
use Rattle.levels.specs.Level.{top_ok, spacing_ok}
use Rattle.sheets.specs.Sheet.{RawSheet, longest, has_title, parse}
use Rattle.sheets.specs.Judgement.{judged}
use Rattle.sheets.specs.declared.judge.Round.{Round}
use Rattle.faults.specs.declared.Fault.{Fault}
use Rattle.faults.specs.declared.Fault.TheVariants.{Empty, TooLong, CarriageReturn, Tab, NotAscii, NoLineFeed, FirstLine}
use Rattle.faults.specs.declared.Fault.TheVariants.{SecondLine, Length, Rule, Count, RankForm, HeightForm, Top, Spacing, LowestLevel}

-- ---- a text that reads as no sheet (14)

-- a byte from low to high
unfoldable pub has_byte : ℕ → ℕ → List ℕ → Bool
has_byte low high [] = false
has_byte low high (b ∷ s) = (leb low b && leb b high) || has_byte low high s

-- the last byte is a line feed; an empty text has none
unfoldable pub ends_line : List ℕ → Bool
ends_line s = eqb (byte s (length s - 1)) (code "\n")

-- the first of these that holds
unfoldable pub malformed : List ℕ → Fault
unfolding has_byte ends_line has_title
malformed s =
    cond (eqb (length s) 0) Empty (
    cond (ltb longest (length s)) TooLong (
    cond (has_byte 13 13 s) CarriageReturn (
    cond (has_byte 9 9 s) Tab (
    cond (has_byte 128 255 s) NotAscii (
    cond (not (ends_line s)) NoLineFeed (
    cond (not (has_title s)) FirstLine
    SecondLine))))))

-- ---- a sheet that is refused

-- 8: another count of symbols than n, or not in the rule's form
abbrev pub start_fault : ℕ → ℕ → ℕ → Fault
start_fault count n rule = cond (not (eqb count n)) Count (cond (eqb rule 1) RankForm HeightForm)

-- 9: the first part of the test that fails
abbrev pub setting_fault : ℤ → ℕ → Fault
setting_fault top spacing = cond (not (top_ok top)) Top (cond (not (spacing_ok spacing)) Spacing LowestLevel)

-- by the number of the refusal, which is 6, 7, 8 or 9
abbrev pub refused_for : ℕ → Fault → Fault → Fault
refused_for number start setting = cond (eqb number 6) Length (cond (eqb number 7) Rule (cond (eqb number 8) start setting))

unfoldable pub sheet_fault : Result Round Cause → RawSheet → Option Fault
sheet_fault (Ok round) x = None
sheet_fault (Err cause) x =
    Some (refused_for (cause_number cause) (start_fault (length x.start) x.n x.rule) (setting_fault x.top x.spacing))

-- ---- a text

unfoldable pub text_fault : List ℕ → Maybe RawSheet → Option Fault
unfolding malformed sheet_fault judged
text_fault s none = Some (malformed s)
text_fault s (some x) = sheet_fault (judged x) x

unfoldable pub fault_of : List ℕ → Option Fault
unfolding text_fault parse
fault_of s = text_fault s (parse s)
