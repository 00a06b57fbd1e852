-- The bytes of an answer (document 01, "Frames" and "Turned down"; document 02, Paper 6).
use Rattle.std.specs.Prelude.{Bool, true, false, cond, List, [], ◌∷◌, ◌++◌, ℕ, ◌-◌, pos, length, get_or, replicate}
use Rattle.refusals.specs.Numbers.{cause_number}
use Rattle.frames.specs.declared.answer.Reply.{Reply}
use Rattle.frames.specs.declared.answer.Reply.TheVariants.{Accepted, Refused}
use Rattle.levels.specs.declared.Setting.{Setting}
use Rattle.frames.specs.Fields.{ascii, bytes32, bytes64, bits32}
use Rattle.levels.specs.Level.{level_of}

-- a reply that is no refusal
unfoldable pub accepted : Reply → Bool
accepted (Accepted symbol level) = true
accepted (Refused cause) = false

-- 0 for an accepted frame, or the table's number of the refusal
abbrev pub reply_number : Reply → ℕ
reply_number (Accepted symbol level) = 0
reply_number (Refused cause) = cause_number cause

-- the letters WKA1 and WKA2, and those that answer a frame of the second version or any other
abbrev pub wka1 : List ℕ
wka1 = ascii "WKA1"

abbrev pub wka2 : List ℕ
wka2 = ascii "WKA2"

abbrev pub header_for : Bool → List ℕ
header_for second = cond second wka2 wka1

-- the forty bytes of an answer to a frame of the second version or another, where the frame left a round numbered `round` (0 in WKO1), `done`
-- steps done and the sixteen bytes `window`, with `different` symbols.
-- Accepted: 0–3 WKA1 or WKA2; 4 zero; 5 symbol; 6 the number of different symbols in the window; 7 the round number; 8–15 steps done;
-- 16–19 level, signed; 20–23 zero; 24–39 the window. Refused: WKA1 or WKA2, the number, 35 zeros.
unfoldable pub answer_bytes : Bool → ℕ → Reply → ℕ → ℕ → List ℕ → List ℕ
answer_bytes second round (Accepted symbol level) different done window =
    header_for second ++ ((0 ∷ symbol ∷ different ∷ round ∷ []) ++ bytes64 done ++ bytes32 (bits32 level) ++ replicate 4 0 ++ window)
answer_bytes second round (Refused cause) different done window = header_for second ++ (cause_number cause ∷ replicate 35 0)

-- the symbol appended last, w_n; 0 where there is none
unfoldable pub newest : List ℕ → ℕ
newest w = get_or w (length w - 1) 0

-- the reply to an accepted S, first or resent, that left the window w: its newest symbol, with its level
unfoldable pub step_reply : ℕ → Setting → List ℕ → Reply
unfolding newest level_of
step_reply rule s w = Accepted (newest w) (level_of rule s (newest w))

-- the reply to an accepted B or Q
abbrev pub state_reply : Reply
state_reply = Accepted 0 (pos 0)
