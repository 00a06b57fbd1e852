-- The fields of a question (document 01, "Frames"; document 02, Papers 4 and 6).
use Rattle.std.specs.Prelude.{Bool, cond, not, ◌&&◌, ◌||◌, List, [], ◌∷◌, ◌++◌, ℕ, eqb, ℤ, length, replicate}
use Prim.Native.Char.{code}
use Rattle.levels.specs.declared.Setting.{Setting}
use Rattle.levels.specs.Table.{no_table}
use Rattle.levels.specs.Level.{on_table}
use Rattle.frames.specs.Fields.{ascii, byte, part, zeros, same_bytes, unsigned16, unsigned64, signed16, bits16, bytes16}

-- 0–3: the letters WKO1, or in the second version WKO2 (Paper 6)
abbrev pub wko1 : List ℕ
wko1 = ascii "WKO1"

abbrev pub wko2 : List ℕ
wko2 = ascii "WKO2"

unfoldable pub is_question : List ℕ → Bool
unfolding part same_bytes
is_question f = same_bytes (part f 0 4) wko1 || same_bytes (part f 0 4) wko2

-- a frame of the second version: forty bytes that start WKO2. Refusals 2 and 3 are WKA1's, so a frame of another length has no version
unfoldable pub is_second : List ℕ → Bool
unfolding part same_bytes
is_second f = eqb (length f) 40 && same_bytes (part f 0 4) wko2

-- 4: the kind
abbrev pub kind_in : List ℕ → ℕ
kind_in f = byte f 4

-- the letters of the kinds: B (begin), S (step), Q (query)
abbrev pub letter_b : ℕ
letter_b = code "B"

abbrev pub letter_s : ℕ
letter_s = code "S"

abbrev pub letter_q : ℕ
letter_q = code "Q"

-- 5: n
abbrev pub length_in : List ℕ → ℕ
length_in f = byte f 5

-- 6: the rule
abbrev pub rule_in : List ℕ → ℕ
rule_in f = byte f 6

-- 7: the round number of a WKO2 B or S
abbrev pub round_number_in : List ℕ → ℕ
round_number_in f = byte f 7

-- 8–15: the step number
unfoldable pub number_in : List ℕ → ℕ
number_in f = unsigned64 f 8

-- 16–17: top, signed; 18–19: spacing; and a table, which no frame carries
unfoldable pub setting_in : List ℕ → List ℤ → Setting
setting_in f table = record { top = signed16 (unsigned16 f 16); spacing = unsigned16 f 18; table = table }

-- a top and a spacing of 0 ask for a table
unfoldable pub takes_table : List ℕ → Bool
unfolding setting_in on_table
takes_table f = on_table (setting_in f no_table)

-- 24–39: the sixteen bytes of the start window
unfoldable pub window_in : List ℕ → List ℕ
unfolding part
window_in f = part f 24 16

-- what test 5 asks of byte 7 of a B or S: a round number, 1 to 255, in WKO2, and zero in WKO1
unfoldable pub round_number_ok : List ℕ → Bool
unfolding is_second
round_number_ok f = cond (is_second f) (not (eqb (round_number_in f) 0)) (eqb (round_number_in f) 0)

-- what test 5 asks of each kind: B has 8–15 and 20–23 zero, S has 5–6 and 16–39, Q has 5–39; and byte 7 of B and S as above
unfoldable pub reserved_b : List ℕ → Bool
unfolding part zeros round_number_ok
reserved_b f = round_number_ok f && (zeros (part f 8 8) && zeros (part f 20 4))

unfoldable pub reserved_s : List ℕ → Bool
unfolding part zeros round_number_ok
reserved_s f = round_number_ok f && (zeros (part f 5 2) && zeros (part f 16 24))

unfoldable pub reserved_q : List ℕ → Bool
unfolding part zeros
reserved_q f = zeros (part f 5 35)

-- the forty bytes of a B for a round, in the second version or the first; the table of its setting does not count
unfoldable pub begin_bytes : Bool → ℕ → ℕ → ℕ → Setting → List ℕ → List ℕ
begin_bytes second n rule round setting window =
    cond second wko2 wko1 ++ ((letter_b ∷ n ∷ rule ∷ round ∷ []) ++ replicate 8 0 ++ bytes16 (bits16 setting.top)
    ++ bytes16 setting.spacing ++ replicate 4 0 ++ window)
