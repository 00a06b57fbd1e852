-- What each direct call returns and leaves in the buffer, for every argument (document 01, "Turned down"; document 02, Papers 1,
-- 5 and 13).
use Rattle.std.specs.Prelude.{Bool, false, cond, not, ◌&&◌, List, ◌++◌, ℕ, Result, Ok, Err, ltb, leb, length, take, drop}
use Rattle.refusals.specs.Numbers.{cause_number, returned}
use Rattle.refusals.specs.declared.Cause.{Cause}
use Rattle.refusals.specs.declared.Cause.TheVariants.{ShortBuffer}
use Rattle.weak_orders.specs.Converted.{rank_to_height, height_to_rank}
use Rattle.ranking.specs.Answers.{counted, placed, located}
use Rattle.filling.specs.Answers.{fill_answer}
use Rattle.successors.specs.NextSymbol.{next_symbol, next_number}
use Rattle.successors.specs.StepBack.{previous_symbol}
use Rattle.successors.specs.RotationUnder.{rotation_answer}
use Rattle.rotations.specs.declared.Rotation.{Rotation}
use Rattle.frames.specs.Fields.{bytes64}

-- the number returned, and the whole buffer
abbrev pub Outcome : Type 0
Outcome = ℕ × List ℕ

-- "Direct calls test 6, 7, 1, then 8 or 13", and 15 behind 8: 6 and 7 are told before a short buffer
unfoldable pub told_first : Cause → Bool
told_first cause = leb 6 (cause_number cause) && leb (cause_number cause) 7

unfoldable pub before_room : {A : Type 0} → Result A Cause → Bool
unfolding told_first
before_room (Ok _) = false
before_room (Err cause) = told_first cause

-- what is answered where `need` bytes are to be written into a buffer of `room`
unfoldable pub with_room : {A : Type 0} → ℕ → ℕ → Result A Cause → Result A Cause
unfolding before_room
with_room need room x = cond (ltb room need && not (before_room x)) (Err ShortBuffer) x

-- accepted, the bytes are written over the front of the buffer; refused, no byte is written
unfoldable pub written : Result (List ℕ) Cause → List ℕ → List ℕ
written (Ok bytes) out = bytes ++ drop (length bytes) out
written (Err cause) out = out

unfoldable pub delivered : Result (List ℕ) Cause → List ℕ → Outcome
unfolding written
delivered x out = (returned x, written x out)

-- f of what is accepted
abbrev pub mapped : {A B : Type 0} → (A → B) → Result A Cause → Result B Cause
mapped f (Ok x) = Ok (f x)
mapped f (Err cause) = Err cause

-- a window for an answer: n bytes
unfoldable pub window_given : ℕ → Result (List ℕ) Cause → List ℕ → Outcome
unfolding with_room delivered
window_given n x out = delivered (with_room n (length out) (mapped (take n) x)) out

-- a number for an answer: accepted with eight bytes, little-endian, or refused
unfoldable pub number_given : Result ℕ Cause → List ℕ → Outcome
unfolding with_room delivered
number_given x out = delivered (with_room 8 (length out) (mapped bytes64 x)) out

-- the calls; those for a symbol differ in the symbol alone
unfoldable pub symbol_call : (ℕ → ℕ → List ℕ → Result ℕ Cause) → ℕ → ℕ → List ℕ → ℕ
symbol_call symbol n rule w = next_number (symbol rule n w)

unfoldable pub next_symbol_call : ℕ → ℕ → List ℕ → ℕ
unfolding symbol_call next_symbol
next_symbol_call = symbol_call next_symbol

unfoldable pub previous_symbol_call : ℕ → ℕ → List ℕ → ℕ
unfolding symbol_call previous_symbol
previous_symbol_call = symbol_call previous_symbol

unfoldable pub rotation_start_call : ℕ → ℕ → List ℕ → ℕ
unfolding rotation_answer
rotation_start_call n rule w = next_number (mapped (λ (r : Rotation). r.start) (rotation_answer rule n w))

unfoldable pub period_call : ℕ → ℕ → List ℕ → ℕ
unfolding rotation_answer
period_call n rule w = next_number (mapped (λ (r : Rotation). r.period) (rotation_answer rule n w))

unfoldable pub rank_to_height_call : ℕ → List ℕ → List ℕ → Outcome
unfolding window_given rank_to_height
rank_to_height_call n w = window_given n (rank_to_height n w)

unfoldable pub height_to_rank_call : ℕ → List ℕ → List ℕ → Outcome
unfolding window_given height_to_rank
height_to_rank_call n w = window_given n (height_to_rank n w)

unfoldable pub place_call : ℕ → List ℕ → List ℕ → Outcome
unfolding number_given placed
place_call n w = number_given (placed n w)

unfoldable pub window_at_call : ℕ → ℕ → List ℕ → Outcome
unfolding window_given located
window_at_call n k = window_given n (located n k)

unfoldable pub count_call : ℕ → List ℕ → Outcome
unfolding number_given counted
count_call n = number_given (counted n)

unfoldable pub fill_call : ℕ → List ℕ → List ℕ → Outcome
unfolding window_given fill_answer
fill_call n p = window_given n (fill_answer n p)
