-- Document 01's example, "The printed round", and a second bench's sheet.
use Rattle.std.specs.Prelude.{List, [], ◌∷◌, ◌++◌, ◌≡◌, ℕ}
use Rattle.successors.specs.Rules.{rule_of, step}
use Rattle.universal_cycle.specs.TwoStarts.{Between}
use Rattle.frames.specs.Fields.{ascii}
use Rattle.printing.specs.Printing.{printed_text}

abbrev pub sample_sheet : List ℕ
sample_sheet = ascii "n rule top spacing start\n2 1 -1000 100 1,1\n"

abbrev pub sample_output : List ℕ
sample_output =
    ascii "step symbol level window\n" ++ ascii "1 2 -1100 1,2\n" ++ ascii "2 1 -1000 2,1\n" ++ ascii "3 1 -1000 1,1\n"

-- the sheet prints exactly that
abbrev pub Sample : Type 0
Sample = printed_text sample_sheet ≡ sample_output

-- the sheet of a second bench, whose start the first one's round meets after two steps (document 02, Paper 13)
abbrev pub second_sheet : List ℕ
second_sheet = ascii "n rule top spacing start\n2 1 -500 25 2,1\n"

abbrev pub TwoSheets : Type 0
TwoSheets = (b : Between (step (rule_of 1)) 3 (1 ∷ 1 ∷ []) (2 ∷ 1 ∷ [])) × (b.steps ≡ 2)
