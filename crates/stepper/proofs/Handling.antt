-- What a begin frame and a step frame come to, by cases. Assumes nothing.
use mathlib.Core.Bool.{Bool, true, false, cond, not, ◌&&◌, ◌||◌, false≢true}
use mathlib.Core.List.{List, ◌++◌}
use mathlib.Core.Path.{◌≡◌, refl, sym, ap, ◌∙◌}
use Prim.Native.Nat.{ℕ, ◌+◌, ◌≤◌, ◌<◌}
use native.Mathlib.Omega.{arith}
use native.Mathlib.Decide.{dec_lt, ℕ_discrete}
use lib.Dec.{leb, eqb}
use lib.IntN.{ℤ}
use lib.ListN.{length, drop}
use borrow.Author.Tests.{lt-ltb, le-ltb, le-leb, lt-leb, eq-eqb, ne_eqb, eqb-true, not-true, not-false}
use Rattle.weak_orders.specs.Window.{is_length}
use Rattle.weak_orders.proofs.Tests.{by_test, says_and, says_itself}
use Rattle.successors.specs.Rules.{is_rule}
use Rattle.refusals.specs.declared.Cause.{Cause}
use Rattle.refusals.specs.declared.Cause.TheVariants.{ShortBuffer, FrameLength, FrameHeader, ReservedByte, RoundInForce}
use Rattle.refusals.specs.declared.Cause.TheVariants.{StepNumber, RoundFinished, OtherVersion, OtherRound}
use Rattle.frames.specs.declared.answer.Reply.{Reply}
use Rattle.levels.specs.Level.{setting_ok}
use Rattle.frames.specs.Question.{is_question, is_second, kind_in, letter_b, length_in, rule_in, setting_in, window_in, reserved_b}
use Rattle.frames.specs.Answer.{accepted, state_reply}
use Rattle.stepper.specs.declared.session.Exchanged.{Exchanged}
use Rattle.stepper.specs.declared.session.Session.{Session}
use Rattle.stepper.specs.Exchange.{window_ok, reply_if, begin_reply, refuse, accept, table_for, round_in, is_again, takes_number, begin_anew, begin_frame}
use Rattle.stepper.specs.Exchange.{handle, answer_to, Outcome, exchange}
use Rattle.stepper.specs.ExactlyOnce.{begin_ok, BeginAccepted}
use Rattle.stepper.proofs.Accepted.{IfAccepted, if_refused, if_cond}
use Rattle.stepper.proofs.Begun.{RoundOk, says_round, begin_judged}
use Rattle.stepper.proofs.Coding.{says_again, again_header, again_kind, again_reserved}

-- the outcome of a frame, of the second version or another, whose answer has room
unfoldable pub written : Bool → Exchanged → List ℕ → Outcome
written second x buffer = (x, answer_to second x ++ drop 40 buffer)

module _ (s : Session) (f buffer : List ℕ) where
  pub room : 40 ≤ length buffer → exchange s f buffer ≡ written (is_second f) (handle s f) buffer
  unfolding exchange written
  room l = rw (le-ltb (length buffer) 40 l)

  pub no_room : length buffer < 40 → exchange s f buffer ≡ (refuse s ShortBuffer, buffer)
  unfolding exchange
  no_room l = rw (lt-ltb (length buffer) 40 l)

-- What an accepted begin frame is known by, where the round's copy is t.
pub record Good (g : List ℕ) (t : List ℤ) : Type 0 where
  pub long : length g ≡ 40
  pub kind : kind_in g ≡ letter_b
  pub reserved : reserved_b g ≡ true
  pub round : RoundOk (length_in g) (rule_in g) (window_in g) (setting_in g t)

-- It began the round in force again, or a new one.
pub data Begins (s : Session) (g : List ℕ) (x : Exchanged) : Type 0 where
  again : length g ≡ 40 → is_again s g ≡ true → x ≡ accept s → Begins s g x
  anew : Good g (table_for g s.held) → is_again s g ≡ false → x ≡ accept (round_in g s.held) → Begins s g x

-- An accepted reply to a begin frame is the one for it.
pub begin_state : (s : Session) → accepted (begin_reply s) ≡ true → begin_reply s ≡ state_reply
unfolding begin_reply reply_if window_ok
begin_state s e =
    let tests = says_and (says_itself (is_length s.n)) (says_and (says_itself (is_rule s.rule))
    (says_and (says_itself (window_ok s.n s.rule s.window)) (says_itself (setting_ok s.n s.setting))))
    in
    let (t₆, (t₇, (t₈, t₉))) = tests.to (sym (begin_judged s) ∙ e) in
    rw (t₆, t₇, t₈, t₉)

module _ (s : Session) (g : List ℕ) (kind : kind_in g ≡ letter_b) where
  begin_cases : IfAccepted (Begins s g) (handle s g)
  unfolding handle begin_frame begin_anew
  begin_cases = rw kind (
      if_cond (not (eqb (length g) 40)) (λ e. if_refused s _) (λ t₂.
      let long = eqb-true (length g) 40 (not-false _ t₂) in
      if_cond (not (is_question g)) (λ e. if_refused s _) (λ e.
      if_cond (not (reserved_b g)) (λ e. if_refused s _) (λ t₅.
      if_cond (is_again s g) (λ e. record { known = λ t. again long e refl }) (λ other.
      if_cond (not (accepted reply)) (λ e. record { known = λ t. absurd (false≢true (sym (not-true _ e) ∙ t)) }) (λ e.
      if_cond (takes_number s g) (λ e. if_refused s _) (λ e. record {
        known = λ t.
            anew (good long (not-false _ t₅) t) other (ap (λ y. record { session = round; reply = y }) (begin_state round t));
      })))))))
    where
      round : Session
      round = round_in g s.held

      reply : Reply
      reply = begin_reply round

      good : length g ≡ 40 → reserved_b g ≡ true → accepted reply ≡ true → Good g (table_for g s.held)
      good long reserved judged = record {
        long = long;
        kind = kind;
        reserved = reserved;
        round = (says_round (length_in g) (rule_in g) (window_in g) (setting_in g (table_for g s.held))).to (sym (begin_judged round) ∙ judged);
      }

  pub begin_taken : (buffer : List ℕ) → accepted (exchange s g buffer).0.reply ≡ true → (40 ≤ length buffer) × Begins s g (handle s g)
  unfolding accepted written
  begin_taken buffer t = elim (dec_lt (length buffer) 40) [
    | yes l ↦ absurd (false≢true (rw (no_room s g buffer l) at t))
    | no l ↦
        let long : 40 ≤ length buffer = omega arith in
        (long, begin_cases.known (rw (room s g buffer long) at t))
  ]

-- The begin frame of the round in force again.
pub begin_again : (s : Session) (g : List ℕ) → length g ≡ 40 → is_again s g ≡ true → handle s g ≡ accept s
unfolding handle begin_frame
begin_again s g long e =
    let x = (says_again s g).to e in
    rw (again_kind s g long x, e, again_reserved s g long x, again_header s g long x, eq-eqb (length g) 40 long)

-- When a begin frame is accepted: `t` says that it begins the round in force again, which passes tests 3 and 5.
begin_chain : (s r : Session) (reply : Reply) (t₂ t₃ t₅ t₁₉ t : Bool) → (t₂ ≡ true → t ≡ true → (t₃ ≡ true) × (t₅ ≡ true)) →
    let x =
    cond (not t₂) (refuse s FrameLength) (
    cond (not t₃) (refuse s FrameHeader) (
    cond (not t₅) (refuse s ReservedByte) (
    cond t (accept s) (
    cond (not (accepted reply)) (record { session = s; reply = reply }) (
    cond t₁₉ (refuse s RoundInForce) (record { session = r; reply = reply }))))))
    in
    accepted x.reply ≡ (t₂ && (t || (t₂ && (t₃ && (t₅ && accepted reply))) && not t₁₉))
unfolding accepted
begin_chain s r reply false t₃ t₅ t₁₉ t h = refl
begin_chain s r reply true t₃ t₅ t₁₉ true h = let (e₃, e₅) = h refl refl in rw (e₃, e₅)
begin_chain s r reply true false t₅ t₁₉ false h = refl
begin_chain s r reply true true false t₁₉ false h = refl
begin_chain s r reply true true true true false h = by_test (accepted reply) (λ e. rw e) (λ e. rw e e)
begin_chain s r reply true true true false false h = by_test (accepted reply) (λ e. rw e e) (λ e. rw e e)

pub begin_accepted : BeginAccepted
unfolding handle begin_frame begin_anew begin_ok round_in written
begin_accepted s g buffer kind l = ap (λ (o : Outcome). accepted o.0.reply) (room s g buffer l) ∙ rw (kind, ← tests)
    (begin_chain s round (begin_reply round) (eqb (length g) 40) (is_question g) (reserved_b g) (takes_number s g) (is_again s g) passes)
  where
    round : Session
    round = round_in g s.held

    tests : accepted (begin_reply round)
        ≡ (is_length (length_in g) && (is_rule (rule_in g) && (window_ok (length_in g) (rule_in g) (window_in g)
        && setting_ok (length_in g) (setting_in g (table_for g s.held)))))
    tests = begin_judged round

    passes : eqb (length g) 40 ≡ true → is_again s g ≡ true → (is_question g ≡ true) × (reserved_b g ≡ true)
    passes e y =
        let long = eqb-true (length g) 40 e in
        let x = (says_again s g).to y in
        (again_header s g long x, again_reserved s g long x)

-- Step frames: tests 2, 3, 5, 17 and 18, which are the count's too. 18 is asked of the second version only: by 5, the first has no number.
pub frame_tests : (R : Cause → Exchanged) (x y : Exchanged) (p q : Bool) (c : Cause) (second t₂ t₃ t₅ t₁₇ t₁₈ : Bool) →
    (second ≡ false → t₅ ≡ true → t₁₇ ≡ true → t₁₈ ≡ true) → x ≡ cond (p || q) y (R c) →
    cond (not t₂) (R FrameLength) (
    cond (not t₃) (R FrameHeader) (
    cond (not t₅) (R ReservedByte) (
    cond (not t₁₇) (R OtherVersion) (
    cond (second && not t₁₈) (R OtherRound) x))))
    ≡ cond (((t₂ && (t₃ && t₅)) && (t₁₇ && t₁₈)) && p || ((t₂ && (t₃ && t₅)) && (t₁₇ && t₁₈)) && q) y
    (R (cond (not t₂) FrameLength (cond (not t₃) FrameHeader (cond (not t₅) ReservedByte (cond (not t₁₇) OtherVersion
    (cond (not t₁₈) OtherRound c))))))
frame_tests R x y p q c second false t₃ t₅ t₁₇ t₁₈ h e = refl
frame_tests R x y p q c second true false t₅ t₁₇ t₁₈ h e = refl
frame_tests R x y p q c second true true false t₁₇ t₁₈ h e = refl
frame_tests R x y p q c second true true true false t₁₈ h e = refl
frame_tests R x y p q c true true true true true false h e = refl
frame_tests R x y p q c false true true true true false h e = absurd (false≢true (h refl refl refl))
frame_tests R x y p q c true true true true true true h e = e
frame_tests R x y p q c false true true true true true h e = e

-- Tests 11 and 12, against the count's words.
pub number_tests : (R : Cause → Exchanged) (session : ℕ → Session) (accept : Session → Exchanged) (c k end : ℕ) → c ≤ end →
    cond (eqb k 0 || not (eqb k c || eqb k (c + 1))) (R StepNumber) (
    cond (eqb k (c + 1) && eqb c end) (R RoundFinished) (
    accept (cond (eqb k (c + 1)) (session (c + 1)) (session c))))
    ≡ cond (eqb k (c + 1) && leb k end || eqb k c && leb 1 k) (accept (session k)) (R (cond (eqb k (c + 1)) RoundFinished StepNumber))
number_tests R session accept c k end le = elim (ℕ_discrete k (c + 1)) [
  | yes e ↦
      let no-retransmission = ne_eqb k c (omega arith) in
      let positive = ne_eqb k 0 (omega arith) in
      elim (dec_lt c end) [
        | yes l ↦ rw (eq-eqb k (c + 1) e, no-retransmission, positive, ne_eqb c end (omega arith), le-leb k end (omega arith))
            (ap (λ i. accept (session i)) (sym e))
        | no l ↦ rw (eq-eqb k (c + 1) e, no-retransmission, positive, eq-eqb c end (omega arith), lt-leb k end (omega arith))
      ]
  | no x ↦ elim (ℕ_discrete k c) [
    | yes e ↦ elim (dec_lt 0 k) [
      | yes l ↦ rw (ne_eqb k (c + 1) x, eq-eqb k c e, ne_eqb k 0 (omega arith), le-leb 1 k l) (ap (λ i. accept (session i)) (sym e))
      | no l ↦ rw (ne_eqb k (c + 1) x, eq-eqb k c e, eq-eqb k 0 (omega arith), lt-leb 1 k (omega arith))
    ]
    | no y ↦ elim (ℕ_discrete k 0) [
      | yes e ↦ rw (ne_eqb k (c + 1) x, ne_eqb k c y, eq-eqb k 0 e)
      | no z ↦ rw (ne_eqb k (c + 1) x, ne_eqb k c y, ne_eqb k 0 z)
    ]
  ]
]
