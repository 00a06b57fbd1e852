-- A level file as it is written and read (document 02, Paper 4). Levels are judged as they were read.
use Rattle.std.specs.Prelude.{true, cond, ◌&&◌, List, [], ◌∷◌, ◌++◌, ◌↔◌, ◌≡◌, ℕ, zero, suc, leb, eqb, ℤ, length}
use Rattle.std.proofs.Math.Option.{Option, none, some}
use Prim.Native.Char.{code}
use Rattle.frames.specs.Fields.{ascii}
use Rattle.levels.specs.Table.{table_ok}
use Rattle.decimals.specs.Text.{decimal, signed}
use Rattle.decimals.specs.Reading.{Found, found, missing, Reader, further, both, behind, ended, number, signed_number}

-- the first line
abbrev pub title_line : List ℕ
title_line = ascii "d level\n"

-- ---- written

-- a line for each level, d counted on from its first
unfoldable pub level_lines : ℕ → List ℤ → List ℕ
level_lines d [] = []
level_lines d (z ∷ t) = ((decimal d ++ ascii " ") ++ (signed z ++ ascii "\n")) ++ level_lines (suc d) t

unfoldable pub table_text : List ℤ → List ℕ
unfolding level_lines
table_text t = title_line ++ level_lines 0 t

-- ---- read

-- one line: a number and a space, a level and a line feed
unfoldable pub level_line : Reader (ℕ × ℤ)
level_line = both (ended number (code " ")) (ended signed_number (code "\n"))

-- the line of d, which must say so
unfoldable pub line_of : ℕ → Found (ℕ × ℤ) → Found ℤ
line_of d (found (e, z) k) = cond (eqb e d) (found z k) missing
line_of d missing = missing

-- so many lines, for d, d + 1, …
unfoldable pub levels : ℕ → ℕ → Reader (List ℤ)
unfolding level_line line_of
levels zero d s = found [] 0
levels (suc m) d s = further 0 (λ (x : ℤ × List ℤ). x.0 ∷ x.1) (both (λ r. line_of d (level_line r)) (levels m (suc d)) s)

-- what takes the whole of a text and is a table
unfoldable pub wholly : ℕ → Found (List ℤ) → Option (List ℤ)
wholly size (found t k) = cond (eqb k size && table_ok t) (some t) none
wholly size missing = none

-- the bytes that a file may have
abbrev pub longest : ℕ
longest = 512

-- the table of a file that is not too long, or none where the file is not as described
unfoldable pub read_table : List ℕ → Option (List ℤ)
unfolding wholly levels
read_table s = cond (leb (length s) longest) (wholly (length s) (behind title_line (λ (t : List ℤ). t) (levels 16 0) s)) none

-- A file reads as a table just if it is that table's text and the table is a good one. No such text is too long.
abbrev pub ReadsTable : Type 0
ReadsTable = (s : List ℕ) (t : List ℤ) → (read_table s ≡ some t) ↔ ((s ≡ table_text t) × (table_ok t ≡ true))
