-- A level file and its table, and files that differ from it in one thing and have none.
use Rattle.std.specs.Prelude.{true, List, [], ◌∷◌, ◌++◌, ◌≡◌, ℕ, ℤ, pos, negsuc}
use Rattle.std.proofs.Math.Option.{none, some}
use Prim.Native.String.{String}
use Rattle.frames.specs.Fields.{ascii}
use Rattle.levels.specs.Table.{table_ok}
use Rattle.level_files.specs.LevelFile.{title_line, table_text, read_table}

-- 2000, 1000, 500, 0, -25, -1000, -2000, … -10000, -12000
abbrev pub table : List ℤ
table =
    pos 2000 ∷ pos 1000 ∷ pos 500 ∷ pos 0 ∷ negsuc 24 ∷ negsuc 999 ∷ negsuc 1999 ∷ negsuc 2999 ∷ negsuc 3999 ∷ negsuc 4999 ∷ negsuc 5999
    ∷ negsuc 6999 ∷ negsuc 7999 ∷ negsuc 8999 ∷ negsuc 9999 ∷ negsuc 11999 ∷ []

-- the lines for d = 4 … 14
abbrev pub lower : List ℕ
lower = ascii "4 -25\n5 -1000\n6 -2000\n7 -3000\n8 -4000\n9 -5000\n10 -6000\n11 -7000\n12 -8000\n13 -9000\n14 -10000\n"

-- a file with these lines before them, and these behind
abbrev pub file : String → String → List ℕ
file upper last = title_line ++ (ascii upper ++ (lower ++ ascii last))

pub record Examples : Type 0 where
  pub good : table_ok table ≡ true
  pub written : table_text table ≡ ascii "d level\n0 2000\n1 1000\n2 500\n3 0\n" ++ (lower ++ ascii "15 -12000\n")
  pub read : read_table (file "0 2000\n1 1000\n2 500\n3 0\n" "15 -12000\n") ≡ some table
  -- no line feed at the end, a line more, and a line less
  pub no_line_feed : read_table (file "0 2000\n1 1000\n2 500\n3 0\n" "15 -12000") ≡ none
  pub seventeen : read_table (file "0 2000\n1 1000\n2 500\n3 0\n" "15 -11000\n16 -12000\n") ≡ none
  pub fifteen : read_table (file "0 2000\n1 1000\n2 500\n3 0\n" "") ≡ none
  pub minus_zero : read_table (file "0 2000\n1 1000\n2 500\n3 -0\n" "15 -12000\n") ≡ none
  pub swapped : read_table (file "1 2000\n0 1000\n2 500\n3 0\n" "15 -12000\n") ≡ none
  -- above 2000, no multiple of 25, and as high as the one before
  pub high : read_table (file "0 2025\n1 1000\n2 500\n3 0\n" "15 -12000\n") ≡ none
  pub uneven : read_table (file "0 2000\n1 1005\n2 500\n3 0\n" "15 -12000\n") ≡ none
  pub equal : read_table (file "0 2000\n1 1000\n2 1000\n3 0\n" "15 -12000\n") ≡ none
  pub capital : read_table (ascii "D level\n0 2000\n1 1000\n2 500\n3 0\n" ++ (lower ++ ascii "15 -12000\n")) ≡ none
