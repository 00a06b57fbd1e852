-- The direct calls on slices. Assumes nothing.
use mathlib.Core.Bool.{true, false, cond}
use mathlib.Core.List.{List}
use mathlib.Core.Path.{◌≡◌, refl, sym, ap}
use Prim.Native.Nat.{ℕ, ◌≤◌, ◌<◌}
use native.Mathlib.Omega.{arith}
use lib.Dec.{ltb, eqb}
use lib.ListN.{length, take}
use borrow.Author.Tests.{lt-ltb, le-ltb}
use Rattle.refusals.specs.declared.Cause.{Cause}
use Rattle.refusals.specs.declared.Cause.TheVariants.{ShortBuffer, FrameLength, FrameHeader, FrameKind, ReservedByte}
use Rattle.refusals.specs.declared.Cause.TheVariants.{WindowLength, RuleNumber, NotWeakOrder, LevelSetting, NotBegun}
use Rattle.refusals.specs.declared.Cause.TheVariants.{StepNumber, RoundFinished, NoSuchPlace, SheetMalformed, NoFilling, LevelFile}
use Rattle.refusals.specs.declared.Cause.TheVariants.{OtherVersion, OtherRound, RoundInForce}
use Rattle.std.specs.Prelude.{Result, Ok, Err, IfOk, MatchResult}
use Rattle.std.specs.Result.{IsOkAnd}
use Rattle.weak_orders.specs.Converted.{judged_by, judged_in, answered, rank_to_height, height_to_rank}
use Rattle.weak_orders.specs.Window.{is_length, is_rank, is_height, heights, ranks, loaded}
use Rattle.weak_orders.proofs.FormTests.{says_length, rank_low, height_low}
use Rattle.weak_orders.proofs.Judged.{refused, loaded_whole, loaded-judged, judged_whole, by_loaded}
use Rattle.weak_orders.proofs.Tests.{by_test, says?, says_no}
use Rattle.ranking.specs.Answers.{counted, placed, number_by, judged_place, located}
use Rattle.ranking.specs.Dictionary.{place, window_at}
use Rattle.ranking.proofs.Answered.{place-uncounted}
use Rattle.filling.specs.Answers.{judged_pattern, fill_answer}
use Rattle.filling.specs.Earliest.{earliest}
use Rattle.filling.specs.Pattern.{is_pattern}
use Rattle.filling.proofs.Verdicts.{accepted_pattern}
use Rattle.successors.specs.NextSymbol.{judged, next_symbol, answer_by}
use Rattle.successors.specs.RotationUnder.{rotation_under, rotation_answer}
use Rattle.successors.proofs.RotationsUnder.{found_bounds}
use Rattle.rotations.specs.declared.Rotation.{Rotation}
use Rattle.successors.specs.Rules.{rule_of}
use Rattle.successors.specs.StepBack.{previous_of, previous_symbol}
use Rattle.successors.proofs.Steppable.{slice_answer}
use Rattle.frames.specs.Fields.{bytes64}
use Rattle.wko.specs.Calls.{told_first, before_room, with_room, mapped, window_given, number_given}

-- ---- an answer with a buffer

module _ {A : Type 0} (need room : ℕ) where
  pub room_enough : need ≤ room → (x : Result A Cause) → with_room need room x ≡ x
  unfolding with_room
  room_enough h x = rw (le-ltb room need h)

  pub room_short : room < need → (x : Result A Cause) → before_room x ≡ false → with_room need room x ≡ Err ShortBuffer
  unfolding with_room
  room_short h x late = rw (lt-ltb room need h, late)

  pub room_told : (x : Result A Cause) → before_room x ≡ true → with_room need room x ≡ x
  unfolding with_room
  room_told x told = by_test (ltb room need) (λ t. rw (t, told)) (λ f. rw f)

-- ---- the answers on a slice

-- what is answered is accepted just where the window is
answered_ok : (v : Result (Unit {0}) Cause) (w : List ℕ) (P : Type 0) → (v ≡ Ok tt → P) → IfOk (answered v w) (λ _. P)
unfolding answered
answered_ok (Ok tt) w P h = h refl
answered_ok (Err c) w P h = tt

pub rank_slice : (n : ℕ) (s : List ℕ) → rank_to_height n (take n (loaded n s)) ≡ rank_to_height n s
unfolding rank_to_height answered
rank_slice n s = by_loaded (judged_in is_rank n) (λ v u. answered v (heights u)) n s
    (loaded-judged is_rank n s (λ w x l le t m. rank_low w n l le t x m)) (judged_whole is_rank n s) (λ c u v. refl)

height-judged : (n : ℕ) (s : List ℕ) → judged_in is_height n (take n (loaded n s)) ≡ judged_in is_height n s
height-judged n s = loaded-judged is_height n s (λ w x l le t m. omega (arith, height_low w n l le t x m))

pub height_slice : (n : ℕ) (s : List ℕ) → height_to_rank n (take n (loaded n s)) ≡ height_to_rank n s
unfolding height_to_rank answered
height_slice n s = by_loaded (judged_in is_height n) (λ v u. answered v (ranks u)) n s (height-judged n s) (judged_whole is_height n s) (λ c u v. refl)

pub place_slice : (n : ℕ) (s : List ℕ) → placed n (take n (loaded n s)) ≡ placed n s
unfolding placed number_by
place_slice n s = by_loaded (judged_in is_height n) (λ v u. number_by v (place u)) n s (height-judged n s) (judged_whole is_height n s) (λ c u v. refl)

-- a pattern that is n long, and one that is not
pub fill_slice : (n : ℕ) (s : List ℕ) → length s ≡ n → fill_answer n (take n (loaded n s)) ≡ fill_answer n s
unfolding fill_answer judged_pattern answered
fill_slice n s l = elim (says? (says_length n)) [
  | yes h ↦ rw (loaded_whole n s h.1 l)
  | no h ↦ rw (says_no (says_length n) h)
]

pub fill_early : (n : ℕ) (s : List ℕ) (c : Cause) → judged_by n (eqb (length s) n) ≡ Err c → Err c ≡ fill_answer n s
unfolding fill_answer judged_pattern is_pattern judged_by answered
fill_early n s c e =
    let told : (v : Result (Unit {0}) Cause) → v ≡ Err c → answered (Err c) s ≡ answered v s = λ v q. ap (λ u. answered u s) (sym q) in
    by_test (is_length n)
    (λ a. by_test (eqb (length s) n)
    (λ q. absurd (refused (sym (rw (a, q) at e))))
    (λ q. rw (a, q) (told _ (rw (a, q) at e))))
    (λ a. rw a (told _ (rw a at e)))

-- a rule that does not fit a byte is no rule, and neither is 0
symbol_slice : (symbol : ℕ → List ℕ → ℕ) (n rule : ℕ) (s : List ℕ) →
    let r = cond (ltb rule 256) rule 0 in
    let u = take n (loaded n s) in
    answer_by (judged r n u) (symbol r u) ≡ answer_by (judged rule n s) (symbol rule s)
unfolding answer_by
symbol_slice symbol n rule s = slice_answer (λ r v u. answer_by v (symbol r u)) (λ c r q u v. refl) rule n s

pub next_slice : (n rule : ℕ) (s : List ℕ) → next_symbol (cond (ltb rule 256) rule 0) n (take n (loaded n s)) ≡ next_symbol rule n s
unfolding next_symbol
next_slice = symbol_slice rule_of

pub previous_slice : (n rule : ℕ) (s : List ℕ) → previous_symbol (cond (ltb rule 256) rule 0) n (take n (loaded n s)) ≡ previous_symbol rule n s
unfolding previous_symbol
previous_slice = symbol_slice previous_of

pub rotation_slice : (n rule : ℕ) (s : List ℕ) → rotation_answer (cond (ltb rule 256) rule 0) n (take n (loaded n s)) ≡ rotation_answer rule n s
unfolding rotation_answer answer_by
rotation_slice n rule s = slice_answer (λ r v u. answer_by v (rotation_under r u)) (λ c r q u v. refl) rule n s

-- an accepted window has at most 16 symbols
pub rank_most : (n : ℕ) (u : List ℕ) → IfOk (rank_to_height n u) (λ _. n ≤ 16)
unfolding rank_to_height
rank_most n u = answered_ok (judged_in is_rank n u) (heights u) (n ≤ 16) (λ e. (judged_whole is_rank n u e).0)

pub height_most : (n : ℕ) (u : List ℕ) → IfOk (height_to_rank n u) (λ _. n ≤ 16)
unfolding height_to_rank
height_most n u = answered_ok (judged_in is_height n u) (ranks u) (n ≤ 16) (λ e. (judged_whole is_height n u e).0)

counted_length : (n : ℕ) → is_length n ≡ false → counted n ≡ Err WindowLength
unfolding counted
counted_length n f = rw f

pub located_most : (n k : ℕ) → IfOk (located n k) (λ _. n ≤ 16)
unfolding located
located_most n k = answered_ok (judged_place n k) (window_at n k) (n ≤ 16) (λ e. elim (says? (says_length n)) [
  | yes l ↦ l.1
  | no l ↦ absurd (refused (rw (place-uncounted n k WindowLength (counted_length n (says_no (says_length n) l))) at e))
])

pub fill_most : (n : ℕ) (p : List ℕ) → IfOk (fill_answer n p) (λ _. n ≤ 16)
unfolding fill_answer
fill_most n p = answered_ok (judged_pattern n p) (earliest n p) (n ≤ 16) (λ e. (accepted_pattern n p e).0)

-- neither number of a rotation is larger than 16
pub rotation_small : (rule n : ℕ) (w : List ℕ) → IfOk (rotation_answer rule n w) (λ r. (r.start ≤ 16) × (r.period ≤ 16))
rotation_small rule n w = go (rotation_answer rule n w) refl
  where
    go : (x : Result Rotation Cause) → rotation_answer rule n w ≡ x → IfOk x (λ r. (r.start ≤ 16) × (r.period ≤ 16))
    go (Ok r) e = found_bounds rule n w r e
    go (Err c) e = tt

-- what `map` gives
pub mapped_from : {A B : Type 0} (f : A → B) (x : Result A Cause) (r : Result B Cause) →
    MatchResult x (λ k. IsOkAnd r (λ y. y ≡ f k)) (λ e. r ≡ Err e) → r ≡ mapped f x
mapped_from f (Ok k) (Ok y) h = ap Ok h
mapped_from f (Ok k) (Err d) h = absurd h
mapped_from f (Err e) r h = h

-- all eight bytes of a number
pub whole_bytes : (x : Result ℕ Cause) (out : List ℕ) → window_given 8 (mapped bytes64 x) out ≡ number_given x out
unfolding window_given number_given
whole_bytes (Ok k) out = refl
whole_bytes (Err c) out = refl

-- the causes that are told before a short buffer
pub late : (c : Cause) → ¬ (c ≡ WindowLength) → ¬ (c ≡ RuleNumber) → false ≡ told_first c
unfolding told_first
late ShortBuffer a b = refl
late FrameLength a b = refl
late FrameHeader a b = refl
late FrameKind a b = refl
late ReservedByte a b = refl
late WindowLength a b = absurd (a refl)
late RuleNumber a b = absurd (b refl)
late NotWeakOrder a b = refl
late LevelSetting a b = refl
late NotBegun a b = refl
late StepNumber a b = refl
late RoundFinished a b = refl
late NoSuchPlace a b = refl
late SheetMalformed a b = refl
late NoFilling a b = refl
late LevelFile a b = refl
late OtherVersion a b = refl
late OtherRound a b = refl
late RoundInForce a b = refl
