-- A sheet as it is written and read (document 01, "The printed round"). Values are kept as they were read.
use Rattle.std.specs.Prelude.{Bool, cond, ◌≡◌, ℕ, ◌≤◌, leb, eqb, ℤ, nat_abs, length}
use mathlib.Core.List.{List, ◌++◌, Memᴰ}
use Rattle.std.proofs.Math.Option.{Option, none, some}
use Prim.Native.Char.{code}
use Rattle.frames.specs.Fields.{ascii}
use Rattle.decimals.specs.Text.{decimal, signed, joined}
use Rattle.decimals.specs.Reading.{Found, found, missing, Reader, both, begins_with, behind, ended, number, signed_number, numbers}

pub record RawSheet : Type 0 where
  pub n : ℕ
  pub rule : ℕ
  pub top : ℤ
  pub spacing : ℕ
  pub start : List ℕ

-- the first line: n rule top spacing start
abbrev pub title_line : List ℕ
title_line = ascii "n rule top spacing start\n"

-- ---- written

-- a field and the space after it
abbrev pub spaced : List ℕ → List ℕ
spaced t = t ++ ascii " "

-- the two lines: single spaces between the fields, a line feed at the end
unfoldable pub sheet_text : RawSheet → List ℕ
sheet_text x =
    title_line ++ ((spaced (decimal x.n) ++ spaced (decimal x.rule)) ++ ((spaced (signed x.top) ++ spaced (decimal x.spacing))
    ++ (joined x.start ++ ascii "\n")))

-- a decimal has at most 6 digits
abbrev pub Short : ℕ → Type 0
Short v = length (decimal v) ≤ 6

-- what the lines allow
pub record Within (x : RawSheet) : Type 0 where
  pub n : Short x.n
  pub rule : Short x.rule
  pub top : Short (nat_abs x.top)
  pub spacing : Short x.spacing
  pub some-start : 1 ≤ length x.start
  pub few_start : length x.start ≤ 16
  pub start : (v : ℕ) → Memᴰ v x.start → Short v

-- the bytes that a sheet may have
abbrev pub longest : ℕ
longest = 128

-- s is the text of the sheet x, and not too long
pub record IsText (x : RawSheet) (s : List ℕ) : Type 0 where
  pub text : s ≡ sheet_text x
  pub within : Within x
  pub size : length s ≤ longest

-- ---- read

-- the text begins with the first line
unfoldable pub has_title : List ℕ → Bool
has_title s = begins_with title_line s

-- n and the rule, with a space after each
unfoldable pub length_and_rule : Reader (ℕ × ℕ)
length_and_rule = both (ended number (code " ")) (ended number (code " "))

-- top and spacing, the same
unfoldable pub top_and_spacing : Reader (ℤ × ℕ)
top_and_spacing = both (ended signed_number (code " ")) (ended number (code " "))

-- the second line
abbrev pub Fields : Type 0
Fields = (ℕ × ℕ) × ((ℤ × ℕ) × List ℕ)

unfoldable pub fields : Reader Fields
fields = both length_and_rule (both top_and_spacing (ended (numbers 16) (code "\n")))

abbrev pub sheet_of : Fields → RawSheet
sheet_of ((n, rule), ((top, spacing), start)) = record { n = n; rule = rule; top = top; spacing = spacing; start = start }

-- the two lines at the start of a text
unfoldable pub sheet_lines : Reader RawSheet
sheet_lines = behind title_line sheet_of fields

-- what takes the whole of a text
unfoldable pub wholly : ℕ → Found RawSheet → Option RawSheet
wholly size (found x k) = cond (eqb k size) (some x) none
wholly size missing = none

-- the sheet of a text that is not too long, or none where the text is malformed
unfoldable pub parse : List ℕ → Option RawSheet
parse s = cond (leb (length s) longest) (wholly (length s) (sheet_lines s)) none
