-- Each step exactly once, whatever is sent again, lost or loaded: the proof of demand 3. Assumes nothing.
use mathlib.Core.Bool.{Bool, true, false, cond, false≢true}
use mathlib.Core.List.{List, [], ◌∷◌, ◌++◌, map}
use mathlib.Core.Logic.{◌⊎◌, inl, inr, ⊎_elim}
use mathlib.Core.Option.{some}
use mathlib.Core.Path.{◌≡◌, refl, sym, ap, ap₂, ◌∙◌, subst}
use Prim.Native.Nat.{ℕ, zero, suc, ◌+◌, ◌-◌, ◌≤◌, ◌<◌}
use native.Mathlib.Omega.{arith}
use native.Mathlib.Decide.{dec_lt}
use lib.IntN.{ℤ}
use lib.ListN.{length, take, drop, get_elem?, take-append-drop}
use lib.Seq.{take_at, drop_at, take-length}
use Rattle.weak_orders.specs.Window.{padded}
use Rattle.weak_orders.proofs.Padded.{length-padded}
use Rattle.weak_orders.proofs.Tests.{by_test, says_and, says_eq, says_itself}
use Rattle.refusals.specs.declared.Cause.{Cause}
use Rattle.refusals.specs.declared.Cause.TheVariants.{ShortBuffer}
use Rattle.levels.specs.Level.{on_table, level_at, level_of}
use Rattle.frames.specs.declared.answer.Reply.{Reply}
use Rattle.frames.specs.declared.answer.Reply.TheVariants.{Accepted, Refused}
use Rattle.frames.specs.Fields.{is_bytes}
use Rattle.frames.specs.Question.{is_second, kind_in, letter_b, letter_s, round_number_in, number_in, setting_in, takes_table}
use Rattle.frames.specs.Answer.{accepted, answer_bytes, step_reply, state_reply}
use Rattle.level_files.specs.LevelFile.{read_table}
use Rattle.stepper.specs.declared.session.Exchanged.{Exchanged}
use Rattle.stepper.specs.declared.session.Session.{Session}
use Rattle.stepper.specs.Exchange.{refuse, accept, same_version, stepped, handle, answer_to, Outcome, exchange}
use Rattle.stepper.specs.ExactlyOnce.{passes, of_round, steps_in, round_of, is_next, accepts, counted, count_from, count_of, cause_at, start_of}
use Rattle.stepper.specs.ExactlyOnce.{window_after, session_at, reply_at, answer_at, begin_answer, Request, arrival, Event, question, level_file}
use Rattle.stepper.specs.ExactlyOnce.{questions, arrivals, next, after, answers, table_or, held_after, copy_after, InOrder, FramesOf}
use Rattle.stepper.specs.ExactlyOnce.{Position, Answered, Began, Rejected, SameAnswer, numbers_after, firsts, ExactlyOnce, StepsExactlyOnce}
use Rattle.stepper.proofs.Begun.{reserved_parts}
use Rattle.stepper.proofs.Coding.{says_again}
use Rattle.stepper.proofs.Handling.{written, room, no_room, Good, Begins, again, anew, begin_taken}
use Rattle.stepper.proofs.Standing.{no_number, standing, listing, windows, begun_at, step_handled, load_at, again_handled, short_refused}
use Rattle.stepper.proofs.Standing.{anew_at, again_good, again_from}
use Rattle.stepper.proofs.Counting.{StepCase, next as next-step, retransmission, neither, step_case, says_next, number_between}
use Rattle.stepper.proofs.Counting.{accepts_steps, counted_next, counted_same, counted_le, count_le, count_ge, next_of, in_order}

-- ---- lists

-- what a request comes to in a session
abbrev one : Session → Request → Outcome
one s x = exchange s x.frame x.buffer

inside : {A : Type 0} (l : List A) (i : ℕ) (x : A) → get_elem? l i ≡ some x → i < length l
inside [] i x e = absurd (let z : ◌≡◌ {A = ℕ} 0 1 = cc in omega arith)
inside (y ∷ l) zero x e = omega arith
inside (y ∷ l) (suc i) x e = omega (arith, inside l i x e)

-- an event at i is a frame at the number of frames before it
question_at : (l : List Event) (i : ℕ) (x : Request) → get_elem? l i ≡ some (question x) →
    get_elem? (questions l) (length (questions (take i l))) ≡ some x
unfolding questions
question_at [] i x e = absurd (let z : ◌≡◌ {A = ℕ} 0 1 = cc in omega arith)
question_at (question y ∷ l) zero x e = let p : y ≡ x = cc in ap some p
question_at (level_file f ∷ l) zero x e = absurd (let z : ◌≡◌ {A = ℕ} 0 1 = cc in omega arith)
question_at (question y ∷ l) (suc i) x e = question_at l i x e
question_at (level_file f ∷ l) (suc i) x e = question_at l i x e

-- the frames among the first i events are the first frames
questions-take : (l : List Event) (i : ℕ) →
    (questions (take i l) ≡ take (length (questions (take i l))) (questions l)) × (length (questions (take i l)) ≤ length (questions l))
unfolding questions
questions-take l zero = (refl, omega arith)
questions-take [] (suc i) = (refl, omega arith)
questions-take (question y ∷ l) (suc i) = let (e, h) = questions-take l i in (ap (λ r. y ∷ r) e, omega arith)
questions-take (level_file f ∷ l) (suc i) = questions-take l i

-- where the k-th frame stands among the events
record Found (l : List Event) (k : ℕ) : Type 0 where
  at : ℕ
  frame : Request
  sent : get_elem? l at ≡ some (question frame)
  before : length (questions (take at l)) ≡ k

found : (l : List Event) (k : ℕ) → k < length (questions l) → Found l k
unfolding questions
found [] k h = absurd (omega arith)
found (question y ∷ l) zero h = record { at = 0; frame = y; sent = refl; before = refl }
found (question y ∷ l) (suc k) h =
    let r = found l k (omega arith) in
    record { at = suc r.at; frame = r.frame; sent = r.sent; before = ap suc r.before }
found (level_file f ∷ l) k h =
    let r = found l k h in
    record { at = suc r.at; frame = r.frame; sent = r.sent; before = r.before }

-- each number of frames, up to all, is that of a part of the list
reach : (l : List Event) (k : ℕ) → k ≤ length (questions l) → (i : ℕ) × (length (questions (take i l)) ≡ k)
unfolding questions
reach l zero h = (0, refl)
reach [] (suc k) h = absurd (omega arith)
reach (question x ∷ l) (suc k) h = let (i, e) = reach l k (omega arith) in (suc i, ap suc e)
reach (level_file f ∷ l) (suc k) h = let (i, e) = reach l (suc k) h in (suc i, e)

joined : (a b : List ℕ) → take 40 a ≡ take 40 b → drop 40 a ≡ drop 40 b → a ≡ b
joined a b e e' = sym (take-append-drop 40 a) ∙ ap₂ ◌++◌ e e' ∙ take-append-drop 40 b

-- ---- the bytes of an outcome

-- an answer of forty bytes, written over a buffer
module _ (second : Bool) (x : Exchanged) (buffer : List ℕ) (l : length (answer_to second x) ≡ 40) where
  pub written_bytes : take 40 (written second x buffer).1 ≡ answer_to second x
  unfolding written
  written_bytes = take_at (answer_to second x) (drop 40 buffer) 40 l

  pub written_rest : drop 40 (written second x buffer).1 ≡ drop 40 buffer
  unfolding written
  written_rest = drop_at (answer_to second x) (drop 40 buffer) 40 l

-- an answer has forty bytes, in either version
pub bytes_long : (second : Bool) (round : ℕ) (reply : Reply) (different done : ℕ) (w : List ℕ) → length w ≡ 16 →
    length (answer_bytes second round reply different done w) ≡ 40
unfolding answer_bytes
bytes_long true round (Accepted symbol level) different done w l = omega arith
bytes_long false round (Accepted symbol level) different done w l = omega arith
bytes_long true round (Refused cause) different done w l = refl
bytes_long false round (Refused cause) different done w l = refl

-- and a refusal, whatever window the session holds
refused_long : (second : Bool) (s : Session) (cause : Cause) → length (answer_to second (refuse s cause)) ≡ 40
unfolding answer_to answer_bytes
refused_long true s cause = refl
refused_long false s cause = refl

module _ (g : List ℕ) (t : List ℤ) (G : Good g t) where
  -- byte 7 is the round number: in the first version both are 0
  number_shown : cond (is_second g) (round_number_in g) 0 ≡ round_number_in g
  number_shown = by_test (is_second g)
      (λ e. rw e)
      (λ e. rw e (sym (no_number g (reserved_parts g G.reserved).0 e)))

  answer_at_lem : (h : List ℤ) (k : ℕ) → answer_to (is_second g) (stepped (session_at g t h k)) ≡ answer_at g t k
  unfolding answer_to stepped session_at answer_at reply_at
  answer_at_lem h k = rw (windows g t G k, number_shown)

  begin_answer_at : (h : List ℤ) → answer_to (is_second g) (accept (session_at g t h 0)) ≡ begin_answer g
  unfolding answer_to session_at begin_answer window_after
  begin_answer_at h = rw (windows g t G 0, number_shown)

  padded_long : (k : ℕ) → length (padded (window_after g k)) ≡ 16
  padded_long k = length-padded (window_after g k) (omega (arith, (standing g t G k).0, G.round.high))

  answer_long : (k : ℕ) → length (answer_at g t k) ≡ 40
  unfolding answer_at
  answer_long k = bytes_long (is_second g) (round_number_in g) (reply_at g t k) _ k (padded (window_after g k)) (padded_long k)

  begin_answer_long : length (begin_answer g) ≡ 40
  unfolding begin_answer window_after
  begin_answer_long = bytes_long (is_second g) (round_number_in g) state_reply _ 0 (padded (start_of g)) (padded_long 0)

  -- what an accepted step frame gets, and the begin frame
  stepped-answered : (h : List ℤ) (k : ℕ) (buffer : List ℕ) → Answered g t k buffer (written (is_second g) (stepped (session_at g t h k)) buffer)
  unfolding written stepped session_at reply_at
  stepped-answered h k buffer =
      let x = stepped (session_at g t h k) in
      let l : length (answer_to (is_second g) x) ≡ 40 = ap length (answer_at_lem h k) ∙ answer_long k in
      record {
        reply = rw (windows g t G k);
        bytes = written_bytes (is_second g) x buffer l ∙ answer_at_lem h k;
        rest = written_rest (is_second g) x buffer l;
      }

  begun_answered : (h : List ℤ) (buffer : List ℕ) → Began g (session_at g t h 0) buffer (written (is_second g) (accept (session_at g t h 0)) buffer)
  unfolding written
  begun_answered h buffer =
      let x = accept (session_at g t h 0) in
      let l : length (answer_to (is_second g) x) ≡ 40 = ap length (begin_answer_at h) ∙ begin_answer_long in
      record {
        reply = refl;
        session = refl;
        bytes = written_bytes (is_second g) x buffer l ∙ begin_answer_at h;
        rest = written_rest (is_second g) x buffer l;
      }

-- what a refused frame gets
pub rejected_written : (s : Session) (cause : Cause) (f buffer : List ℕ) → 40 ≤ length buffer →
    Rejected cause s f buffer (written (is_second f) (refuse s cause) buffer)
unfolding written answer_to answer_bytes
rejected_written s cause f buffer h =
    let long = refused_long (is_second f) s cause in
    record {
      reply = refl;
      session = refl;
      short = λ l. absurd (omega arith);
      bytes = λ l. written_bytes (is_second f) (refuse s cause) buffer long;
      rest = written_rest (is_second f) (refuse s cause) buffer long;
    }

pub rejected_short : (s : Session) (f buffer : List ℕ) → length buffer < 40 → Rejected ShortBuffer s f buffer (refuse s ShortBuffer, buffer)
rejected_short s f buffer h = record {
  reply = refl;
  session = refl;
  short = λ l. refl;
  bytes = λ l. absurd (omega arith);
  rest = refl;
}

-- ---- one step frame at the count c

same_version_lem : (a b : Bool) → same_version a b ≡ true → a ≡ b
unfolding same_version
same_version_lem true true e = refl
same_version_lem true false e = absurd (false≢true e)
same_version_lem false true e = absurd (false≢true e)
same_version_lem false false e = refl

-- an accepted frame is a step frame, in the begin frame's version
accepts_parts : (g : List ℕ) (c : ℕ) (x : Request) → accepts g c (arrival x) ≡ true →
    (kind_in x.frame ≡ letter_s) × (is_second x.frame ≡ is_second g)
unfolding steps_in of_round
accepts_parts g c x e =
    let f = x.frame in
    let tests = says_and (says_eq (kind_in f) letter_s) (says_and (says_itself (passes (arrival x)))
    (says_and (says_itself (same_version (is_second f) (is_second g))) (says_itself _)))
    in
    let (kind, (_, (version, _))) = tests.to (accepts_steps g c (arrival x) e) in
    (kind, same_version_lem (is_second f) (is_second g) version)

module _ (g : List ℕ) (t : List ℤ) (G : Good g t) (h : List ℤ) (c : ℕ) (le : c ≤ round_of g) (x : Request) where
  -- the outcome where the count accepts, and where it does not
  taken : accepts g c (arrival x) ≡ true →
      one (session_at g t h c) x ≡ written (is_second g) (stepped (session_at g t h (number_in x.frame))) x.buffer
  taken e =
      let (kind, version) = accepts_parts g c x e in
      elim (dec_lt (length x.buffer) 40) [
        | yes l ↦ absurd (false≢true (sym (short_refused g c (arrival x) l).0 ∙ e))
        | no l ↦ room (session_at g t h c) x.frame x.buffer (omega arith)
            ∙ ap₂ (λ second y. written second y x.buffer) version (step_handled g t G h c le (arrival x) (omega arith) kind ∙ rw e)
      ]

  module _ (kind : kind_in x.frame ≡ letter_s) where
    not_taken : accepts g c (arrival x) ≡ false →
        Rejected (cause_at g c (arrival x)) (session_at g t h c) x.frame x.buffer (one (session_at g t h c) x)
    not_taken e = elim (dec_lt (length x.buffer) 40) [
      | yes l ↦ rw (no_room (session_at g t h c) x.frame x.buffer l, (short_refused g c (arrival x) l).1)
          (rejected_short (session_at g t h c) x.frame x.buffer l)
      | no l ↦ rw (room (session_at g t h c) x.frame x.buffer (omega arith), step_handled g t G h c le (arrival x) (omega arith) kind, e)
          (rejected_written (session_at g t h c) (cause_at g c (arrival x)) x.frame x.buffer (omega arith))
    ]

    one_accepted : accepted (one (session_at g t h c) x).0.reply ≡ accepts g c (arrival x)
    unfolding accepted written stepped step_reply
    one_accepted = by_test (accepts g c (arrival x))
        (λ e. rw (taken e, e))
        (λ e. rw ((not_taken e).reply, e))

    -- The session goes on as the count does.
    one_session : (one (session_at g t h c) x).0.session ≡ session_at g t h (counted g c (arrival x))
    unfolding accepts counted written stepped
    one_session = go (step_case g c (arrival x))
      where
        go : StepCase g c (arrival x) → (one (session_at g t h c) x).0.session ≡ session_at g t h (counted g c (arrival x))
        go (next-step e n u) = rw (taken (rw e), e) (ap (session_at g t h) n)
        go (retransmission e e' n u) = rw (taken (rw (e, e')), e) (ap (session_at g t h) n)
        go (neither e e') = (not_taken (rw (e, e'))).session ∙ rw e

-- ---- the begin frame again, at the count 0

-- it is no step frame
counted_begin : (g : List ℕ) (c : ℕ) (x : Request) → kind_in g ≡ letter_b → x.frame ≡ g → counted g c (arrival x) ≡ c
unfolding counted is_next steps_in
counted_begin g c x kind same = rw (same, kind)

module _ (g : List ℕ) (t : List ℤ) (G : Good g t) (small : is_bytes g ≡ true) (second : is_second g ≡ true) (h : List ℤ) (x : Request)
    (same : x.frame ≡ g) where
  again_began : 40 ≤ length x.buffer → Began g (session_at g t h 0) x.buffer (one (session_at g t h 0) x)
  again_began l =
      rw (same, room (session_at g t h 0) g x.buffer l, again_handled g t G h small second) (begun_answered g t G h x.buffer)

  again_short : length x.buffer < 40 → Rejected ShortBuffer (session_at g t h 0) x.frame x.buffer (one (session_at g t h 0) x)
  again_short l = rw (no_room (session_at g t h 0) x.frame x.buffer l) (rejected_short (session_at g t h 0) x.frame x.buffer l)

  again_session : (one (session_at g t h 0) x).0.session ≡ session_at g t h 0
  again_session = elim (dec_lt (length x.buffer) 40) [
    | yes l ↦ (again_short l).session
    | no l ↦ (again_began (omega arith)).session
  ]

-- ---- a list of events

window_of : (g : List ℕ) (t h : List ℤ) (k : ℕ) → (session_at g t h k).window ≡ padded (window_after g k)
unfolding session_at
window_of g t h k = refl

done_of : (g : List ℕ) (t h : List ℤ) (k : ℕ) → (session_at g t h k).done ≡ k
unfolding session_at
done_of g t h k = refl

-- the begin frame again, where the count c is 0
record AgainAt (g : List ℕ) (c : ℕ) (x : Request) : Type 0 where
  second : is_second g ≡ true
  same : x.frame ≡ g
  unstepped : c ≡ 0

-- a frame that may come at the count c, and a list of them from the count c on
abbrev MayCome : List ℕ → ℕ → Request → Type 0
MayCome g c x = (kind_in x.frame ≡ letter_s) ⊎ AgainAt g c x

record FramesFrom (g : List ℕ) (c : ℕ) (list : List Event) : Type 0 where
  each : (i : ℕ) (x : Request) → get_elem? list i ≡ some (question x) → MayCome g (count_from g c (arrivals (take i list))) x

frames_from : (g : List ℕ) (l : List Event) → FramesOf g l → FramesFrom g 0 l
unfolding count_of
frames_from g l frames = record {
  each = λ i x e. ⊎_elim inl (λ b. inr (record { second = b.second; same = b.same; unstepped = b.unstepped })) (frames.each i x e);
}

head_question : {g : List ℕ} {c : ℕ} {x : Request} {l : List Event} → FramesFrom g c (question x ∷ l) → MayCome g c x
unfolding arrivals questions count_from
head_question {g} {c} {x} frames = frames.each 0 x refl

tail_question : {g : List ℕ} {c : ℕ} {x : Request} {l : List Event} → FramesFrom g c (question x ∷ l) → FramesFrom g (counted g c (arrival x)) l
unfolding arrivals questions count_from
tail_question frames = record { each = λ i y e. frames.each (suc i) y e }

tail-file : {g : List ℕ} {c : ℕ} {f : List ℕ} {l : List Event} → FramesFrom g c (level_file f ∷ l) → FramesFrom g c l
unfolding arrivals questions
tail-file frames = record { each = λ i y e. frames.each (suc i) y e }

module _ (g : List ℕ) (t : List ℤ) (G : Good g t) (small : is_bytes g ≡ true) where
  -- a frame that may come leaves the session at the count
  head_session : (h : List ℤ) (c : ℕ) → c ≤ round_of g → (x : Request) → MayCome g c x →
      next (session_at g t h c) (question x) ≡ session_at g t h (counted g c (arrival x))
  unfolding next
  head_session h c le x = ⊎_elim
      (λ kind. one_session g t G h c le x kind)
      (λ b.
      subst (λ k. (one (session_at g t h k) x).0.session ≡ session_at g t h k) (sym b.unstepped)
      (again_session g t G small b.second h x b.same)
      ∙ ap (session_at g t h) (sym (counted_begin g c x G.kind b.same)))

  after-take : (l : List Event) (h : List ℤ) (c : ℕ) → FramesFrom g c l → c ≤ round_of g → (i : ℕ) →
      after (session_at g t h c) (take i l) ≡ session_at g t (held_after h (take i l)) (count_from g c (arrivals (take i l)))
  unfolding after held_after arrivals questions count_from
  after-take l h c frames le zero = refl
  after-take [] h c frames le (suc i) = refl
  after-take (question x ∷ l) h c frames le (suc i) =
      ap (λ s. after s (take i l)) (head_session h c le x (head_question frames))
      ∙ after-take l h (counted g c (arrival x)) (tail_question frames) (counted_le g c (arrival x) le) i
  after-take (level_file f ∷ l) h c frames le (suc i) =
      ap (λ s. after s (take i l)) (load_at g t G h c f) ∙ after-take l (table_or h (read_table f)) c (tail-file frames) le i

  -- what a frame is answered does not hang on the table held
  same_buffer : (h h' : List ℤ) (c : ℕ) → c ≤ round_of g → (x : Request) → MayCome g c x →
      (one (session_at g t h c) x).1 ≡ (one (session_at g t h' c) x).1
  same_buffer h h' c le x = ⊎_elim
      (λ kind. by_test (accepts g c (arrival x))
      (λ e.
      let k = number_in x.frame in
      let A = stepped-answered g t G h k x.buffer in
      let B = stepped-answered g t G h' k x.buffer in
      rw (taken g t G h c le x e, taken g t G h' c le x e)
      (joined _ _ (A.bytes ∙ sym B.bytes) (A.rest ∙ sym B.rest)))
      (λ e. down (not_taken g t G h c le x kind e) (not_taken g t G h' c le x kind e)))
      (λ b. elim (dec_lt (length x.buffer) 40) [
        | yes l ↦ rw b.unstepped (down (again_short g t G small b.second h x b.same l) (again_short g t G small b.second h' x b.same l))
        | no l ↦
            let A = again_began g t G small b.second h x b.same (omega arith) in
            let B = again_began g t G small b.second h' x b.same (omega arith) in
            rw b.unstepped (joined _ _ (A.bytes ∙ sym B.bytes) (A.rest ∙ sym B.rest))
      ])
    where
      down : {cause : Cause} {s s' : Session} {o o' : Outcome} → Rejected cause s x.frame x.buffer o →
          Rejected cause s' x.frame x.buffer o' → o.1 ≡ o'.1
      down A B = elim (dec_lt (length x.buffer) 40) [
        | yes l ↦ A.short l ∙ sym (B.short l)
        | no l ↦ joined _ _ (A.bytes (omega arith) ∙ sym (B.bytes (omega arith))) (A.rest ∙ sym B.rest)
      ]

  loads_none : (l : List Event) (h h' : List ℤ) (c : ℕ) → FramesFrom g c l → c ≤ round_of g →
      answers (session_at g t h c) l ≡ answers (session_at g t h' c) (map question (questions l))
  unfolding answers questions
  loads_none [] h h' c frames le = refl
  loads_none (question x ∷ l) h h' c frames le =
      let here = head_question frames in
      ap₂ ◌∷◌ (same_buffer h h' c le x here)
      (ap (λ s. answers s l) (head_session h c le x here)
      ∙ loads_none l h h' (counted g c (arrival x)) (tail_question frames) (counted_le g c (arrival x) le)
      ∙ sym (ap (λ s. answers s (map question (questions l))) (head_session h' c le x here)))
  loads_none (level_file f ∷ l) h h' c frames le =
      ap (λ s. answers s l) (load_at g t G h c f) ∙ loads_none l (table_or h (read_table f)) h' c (tail-file frames) le

  -- the windows after the first acceptances are W_(c + 1), …, W_(c + m), where the count rises by m
  firsts_from : (l : List Event) (h : List ℤ) (c : ℕ) → FramesFrom g c l → c ≤ round_of g → (m : ℕ) → count_from g c (arrivals l) ≡ c + m →
      firsts g c (session_at g t h c) l ≡ map (λ k. padded (window_after g k)) (numbers_after c m)
  unfolding firsts arrivals questions count_from numbers_after
  firsts_from [] h c frames le m e = let z : m ≡ 0 = omega arith in rw z
  firsts_from (level_file f ∷ l) h c frames le m e = rw (load_at g t G h c f) (firsts_from l (table_or h (read_table f)) c (tail-file frames) le m e)
  firsts_from (question x ∷ l) h c frames le m e =
      let count : ℕ → ℕ = λ k. count_from g k (arrivals l) in
      let goes = head_session h c le x (head_question frames) in
      by_test (is_next g c (arrival x))
      (λ y.
      let up = counted_next g c (arrival x) y in
      let behind : FramesFrom g (c + 1) l = rw up at (tail_question frames) in
      rw (goes, up, y) (ap (λ w. w ∷ Rest) (window_of g t h (c + 1)) ∙ rises y (firsts_from l h (c + 1) behind) m (ap count (sym up) ∙ e)))
      (λ y.
      let same = counted_same g c (arrival x) y in
      let behind : FramesFrom g c l = rw same at (tail_question frames) in
      rw (goes, same, y) (firsts_from l h c behind le m (ap count (sym same) ∙ e)))
    where
      Rest : List (List ℕ)
      Rest = firsts g (c + 1) (session_at g t h (c + 1)) l

      rises : is_next g c (arrival x) ≡ true →
          (c + 1 ≤ round_of g → (m : ℕ) → count_from g (c + 1) (arrivals l) ≡ c + 1 + m →
          Rest ≡ map (λ k. padded (window_after g k)) (numbers_after (c + 1) m)) →
          (m : ℕ) → count_from g (c + 1) (arrivals l) ≡ c + m →
          padded (window_after g (c + 1)) ∷ Rest ≡ map (λ k. padded (window_after g k)) (numbers_after c m)
      rises y ih zero e = absurd (omega (arith, count_ge g (c + 1) (arrivals l)))
      rises y ih (suc m) e =
          let (p, (n, u)) = (says_next g c (arrival x)).to y in
          ap (λ r. padded (window_after g (c + 1)) ∷ r) (ih (omega arith) m (omega arith))

-- ---- the two lists

module _ (g : List ℕ) (l : List Event) (order : InOrder g (questions l)) where
  -- the reference session's frames are step frames
  in_order_frames : FramesFrom g 0 l
  in_order_frames = record { each = λ i x e. inl (order.step _ x (question_at l i x e)) }

  -- and of the round
  in_order_steps : (i : ℕ) (x : Request) → get_elem? (questions l) i ≡ some x → steps_in g (arrival x) ≡ true
  unfolding steps_in
  in_order_steps i x e = rw (order.step i x e, order.pass i x e, order.round i x e)

  -- its count is the number of its frames
  count_reference : (i : ℕ) → count_from g 0 (arrivals (take i l)) ≡ length (questions (take i l))
  unfolding arrivals
  count_reference i =
      let n = length (questions (take i l)) in
      let (e, le) = questions-take l i in
      ap (λ r. count_from g 0 (map arrival r)) e
      ∙ in_order g (questions l) 0 (omega (arith, order.long)) (λ i x e. (in_order_steps i x e, omega (arith, order.numbered i x e))) n le
      ∙ omega arith

-- an answer hangs on the copy only where the round is on a table
same_copy : (g : List ℕ) (t t' : List ℤ) → (takes_table g ≡ true → t ≡ t') → (k : ℕ) → answer_at g t k ≡ answer_at g t' k
unfolding answer_at reply_at step_reply level_of level_at on_table setting_in takes_table
same_copy g t t' same k = by_test (takes_table g)
    (λ e. ap (λ u. answer_at g u k) (same e))
    (λ e. rw e)

module _ (R₀ T₀ : Session) (g bufferR bufferT : List ℕ) (ordered arrived : List Event) (small : is_bytes g ≡ true)
    (GR : Good g (copy_after R₀ g)) (GT : Good g (copy_after T₀ g)) (same : takes_table g ≡ true → copy_after R₀ g ≡ copy_after T₀ g)
    (order : InOrder g (questions ordered)) (frames : FramesOf g arrived) where
  -- the round's copies, and the tables held when the begin frame comes
  abbrev tR : List ℤ
  tR = copy_after R₀ g

  abbrev tT : List ℤ
  tT = copy_after T₀ g

  abbrev hR : List ℤ
  hR = R₀.held

  abbrev hT : List ℤ
  hT = T₀.held

  on_reference : (i : ℕ) → after (session_at g tR hR 0) (take i ordered)
      ≡ session_at g tR (held_after hR (take i ordered)) (length (questions (take i ordered)))
  on_reference i = after-take g tR GR small ordered hR 0 (in_order_frames g ordered order) (omega arith) i
      ∙ ap (session_at g tR (held_after hR (take i ordered))) (count_reference g ordered order i)

  on_retried : (i : ℕ) → after (session_at g tT hT 0) (take i arrived)
      ≡ session_at g tT (held_after hT (take i arrived)) (count_from g 0 (arrivals (take i arrived)))
  on_retried = after-take g tT GT small arrived hT 0 (frames_from g arrived frames) (omega arith)

  -- a frame of the reference session's, by its place among the frames
  module _ (i : ℕ) (x : Request) (e : get_elem? ordered i ≡ some (question x)) where
    numbered_reference : number_in x.frame ≡ length (questions (take i ordered)) + 1
    numbered_reference = order.numbered _ x (question_at ordered i x e)

    within_reference : length (questions (take i ordered)) < round_of g
    within_reference = omega (arith, inside (questions ordered) _ x (question_at ordered i x e), order.long)

    came_reference : one (after (session_at g tR hR 0) (take i ordered)) x
        ≡ written (is_second g) (stepped (session_at g tR (held_after hR (take i ordered)) (number_in x.frame))) x.buffer
    unfolding accepts
    came_reference =
        let n = length (questions (take i ordered)) in
        let steps = in_order_steps g ordered order n x (question_at ordered i x e) in
        let y : accepts g n (arrival x) ≡ true = rw (next_of g n (arrival x) steps numbered_reference within_reference) in
        ap (λ s. one s x) (on_reference i) ∙ taken g tR GR (held_after hR (take i ordered)) n (omega (arith, within_reference)) x y

    answers_reference : Answered g tR (number_in x.frame) x.buffer (one (after (session_at g tR hR 0) (take i ordered)) x)
    answers_reference = rw came_reference (stepped-answered g tR GR (held_after hR (take i ordered)) (number_in x.frame) x.buffer)

  -- a frame of the retried session's
  module _ {i : ℕ} {x : Request} {c : ℕ} {o : Outcome} (p : Position g (session_at g tT hT 0) arrived i x c o) where
    before : after (session_at g tT hT 0) (take i arrived) ≡ session_at g tT (held_after hT (take i arrived)) c
    unfolding count_of
    before = on_retried i ∙ ap (session_at g tT (held_after hT (take i arrived))) p.count

    position : one (session_at g tT (held_after hT (take i arrived)) c) x ≡ o
    position = ap (λ s. one s x) (sym before) ∙ p.came

    within : c ≤ round_of g
    unfolding count_of
    within = omega (arith, count_le g 0 (arrivals (take i arrived)) (omega arith), p.count)

    module _ (kind : kind_in x.frame ≡ letter_s) where
      accepted_retried : accepted o.0.reply ≡ accepts g c (arrival x)
      accepted_retried = rw (← position) (one_accepted g tT GT (held_after hT (take i arrived)) c within x kind)

      refused_retried : accepts g c (arrival x) ≡ false →
          Rejected (cause_at g c (arrival x)) (after (session_at g tT hT 0) (take i arrived)) x.frame x.buffer o
      refused_retried y = rw (before, ← position) (not_taken g tT GT (held_after hT (take i arrived)) c within x kind y)

    module _ (y : accepts g c (arrival x) ≡ true) where
      answers_retried : Answered g tT (number_in x.frame) x.buffer o
      answers_retried =
          rw (← position, taken g tT GT (held_after hT (take i arrived)) c within x y)
          (stepped-answered g tT GT (held_after hT (take i arrived)) (number_in x.frame) x.buffer)

      same_answer : SameAnswer (session_at g tR hR 0) ordered (number_in x.frame) o
      same_answer =
          let k = number_in x.frame in
          let (low, high) = number_between g c (arrival x) within y in
          let r = found ordered (k - 1) (omega (arith, order.long)) in
          let n : number_in r.frame.frame ≡ k = omega (arith, numbered_reference r.at r.frame r.sent, r.before) in
          let reference = answers_reference r.at r.frame r.sent in
          record {
            at = r.at;
            other = r.frame;
            sent = r.sent;
            numbered = n;
            same = answers_retried.bytes ∙ sym (same_copy g tR tT same k) ∙ ap (answer_at g tR) (sym n) ∙ sym reference.bytes;
          }

    -- the begin frame again
    module _ (e : x.frame ≡ g) where
      unstepped : AgainAt g c x
      unfolding count_of
      unstepped = ⊎_elim
          (λ kind. absurd (omega (arith, sym (ap kind_in e) ∙ kind, GT.kind)))
          (λ b. record { second = b.second; same = e; unstepped = sym p.count ∙ b.unstepped })
          (frames.each i x p.sent)

      again_retried : 40 ≤ length x.buffer → Began g (after (session_at g tT hT 0) (take i arrived)) x.buffer o
      again_retried l =
          rw (before, ← position, unstepped.unstepped)
          (again_began g tT GT small unstepped.second (held_after hT (take i arrived)) x e l)

      short_retried : length x.buffer < 40 → Rejected ShortBuffer (after (session_at g tT hT 0) (take i arrived)) x.frame x.buffer o
      short_retried l =
          rw (before, ← position, unstepped.unstepped)
          (again_short g tT GT small unstepped.second (held_after hT (take i arrived)) x e l)

  end_within : count_from g 0 (arrivals arrived) ≤ round_of g
  end_within = count_le g 0 (arrivals arrived) (omega arith)

  end_retried : after (session_at g tT hT 0) arrived ≡ session_at g tT (held_after hT arrived) (count_from g 0 (arrivals arrived))
  end_retried = rw take-length at (on_retried (length arrived))

  done_retried : (after (session_at g tT hT 0) arrived).done ≡ count_from g 0 (arrivals arrived)
  done_retried = ap (λ s. s.done) end_retried ∙ done_of g tT _ _

  reached : (i : ℕ) × (length (questions (take i ordered)) ≡ count_from g 0 (arrivals arrived))
  reached = reach ordered _ (omega (arith, end_within, order.long))

  -- the reference session after as many frames as the count
  module _ (i : ℕ) (e : length (questions (take i ordered)) ≡ count_from g 0 (arrivals arrived)) where
    same_done : (after (session_at g tT hT 0) arrived).done ≡ (after (session_at g tR hR 0) (take i ordered)).done
    same_done = done_retried ∙ sym (ap (λ s. s.done) (on_reference i) ∙ done_of g tR _ _ ∙ e)

    same_window : (after (session_at g tT hT 0) arrived).window ≡ (after (session_at g tR hR 0) (take i ordered)).window
    same_window = ap (λ s. s.window) end_retried ∙ window_of g tT _ _ ∙ ap (λ k. padded (window_after g k)) (sym e)
        ∙ sym (ap (λ s. s.window) (on_reference i) ∙ window_of g tR _ _)

  whole_reference : count_from g 0 (arrivals ordered) ≡ round_of g
  whole_reference = rw take-length at (count_reference g ordered order (length ordered)) ∙ order.long

  both : ExactlyOnce g R₀ T₀ bufferR bufferT (written (is_second g) (accept (session_at g tR hR 0)) bufferR)
      (written (is_second g) (accept (session_at g tT hT 0)) bufferT) ordered arrived
  unfolding count_of written
  both = record {
    began_reference = begun_answered g tR GR hR bufferR;
    began_retried = begun_answered g tT GT hT bufferT;
    accepted_retried = λ p kind. accepted_retried p kind;
    answered_retried = λ p y. (answers_retried p y, same_answer p y);
    answered_reference = λ {i} {x} {c} {o} p.
        subst (Answered g tR (number_in x.frame) x.buffer) p.came (answers_reference i x p.sent);
    refused_retried = λ p kind y. refused_retried p kind y;
    again_retried = λ p e l. again_retried p e l;
    short_retried = λ p e l. short_retried p e l;
    count_within = λ i. count_le g 0 (arrivals (take i arrived)) (omega arith);
    end_within = end_within;
    on_retried = on_retried;
    end_retried = end_retried;
    on_reference = on_reference;
    begun_reference = begun_at g tR GR;
    begun_retried = begun_at g tT GT;
    done_retried = done_retried;
    reached = reached;
    same_done = same_done;
    same_window = same_window;
    loads_reference = loads_none g tR GR small ordered hR hR 0 (in_order_frames g ordered order) (omega arith);
    loads_retried = loads_none g tT GT small arrived hT hT 0 (frames_from g arrived frames) (omega arith);
    listing = listing g tR GR;
    firsts_reference = firsts_from g tR GR small ordered hR 0 (in_order_frames g ordered order) (omega arith) (round_of g)
        (whole_reference ∙ omega arith);
    firsts_retried = firsts_from g tT GT small arrived hT 0 (frames_from g arrived frames) (omega arith) (count_of g (arrivals arrived)) (omega arith);
  }

-- ---- the begin frame

-- a session that accepted it, where the round's copy is t
pub record Left (s : Session) (g buffer : List ℕ) (t : List ℤ) : Type 0 where
  pub good : Good g t
  pub came : exchange s g buffer ≡ written (is_second g) (accept (session_at g t s.held 0)) buffer

pub left : (s : Session) (g buffer : List ℕ) → kind_in g ≡ letter_b → accepted (exchange s g buffer).0.reply ≡ true →
    Left s g buffer (copy_after s g)
unfolding copy_after
left s g buffer kind e = let (l, b) = begin_taken s g kind buffer e in go l b
  where
    go : 40 ≤ length buffer → Begins s g (handle s g) → Left s g buffer (copy_after s g)
    go l (again long y q) =
        let x = (says_again s g).to y in
        rw y (record {
          good = again_good s g long x;
          came = room s g buffer l ∙ ap (λ x. written (is_second g) x buffer) (q ∙ ap accept (again_from s g long x));
        })
    go l (anew G y q) = rw y (record {
      good = G;
      came = room s g buffer l ∙ ap (λ x. written (is_second g) x buffer) (q ∙ ap accept (anew_at g s.held G));
    })

-- Document 01's demand 3.
pub steps_exactly_once : StepsExactlyOnce
steps_exactly_once R₀ T₀ g bufferR bufferT ordered arrived small kind accepted-R accepted-T same order frames =
    let R = left R₀ g bufferR kind accepted-R in
    let T = left T₀ g bufferT kind accepted-T in
    rw (R.came, T.came) (both R₀ T₀ g bufferR bufferT ordered arrived small R.good T.good same order frames)
