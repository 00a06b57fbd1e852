-- What a session that counts as begun is known by, and that a step keeps it so. Assumes nothing.
use mathlib.Core.Bool.{Bool, true, false, cond, not, ◌&&◌}
use mathlib.Core.List.{List}
use mathlib.Core.Path.{◌≡◌, refl, sym, subst}
use Prim.Native.Nat.{ℕ, ◌≤◌, ◌<◌}
use native.Mathlib.Omega.{arith}
use lib.Dec.{leb, eqb}
use lib.IntN.{ℤ}
use lib.ListN.{length, take, drop}
use lib.Seq.{length-take-le}
use Rattle.weak_orders.proofs.FormTests.{says_length}
use Rattle.weak_orders.specs.Says.{Says}
use Rattle.weak_orders.specs.Window.{is_length}
use Rattle.weak_orders.proofs.Padded.{take-padded, shifted-length}
use Rattle.weak_orders.proofs.Tests.{by_test, says_and, says_as, says_eq, says_itself, says_le}
use Rattle.ranking.specs.Counts.{a}
use Rattle.successors.specs.Rules.{rule_of, in_form, is_rule, step}
use Rattle.successors.proofs.StepForm.{step_in_form}
use Rattle.refusals.specs.declared.Cause.TheVariants.{WindowLength, RuleNumber}
use Rattle.refusals.specs.declared.Cause.TheVariants.{NotWeakOrder, LevelSetting}
use Rattle.frames.specs.declared.answer.Reply.TheVariants.{Refused}
use Rattle.levels.specs.declared.Setting.{Setting}
use Rattle.frames.specs.Fields.{part, zeros}
use Rattle.levels.specs.Level.{setting_ok}
use Rattle.frames.specs.Question.{reserved_b}
use Rattle.frames.specs.Question.{is_second, round_number_ok}
use Rattle.frames.specs.Answer.{accepted, state_reply}
use Rattle.frames.proofs.Padding.{unused_padded}
use Rattle.stepper.specs.declared.session.Session.{Session}
use Rattle.stepper.specs.Exchange.{window_ok, reply_if, begin_reply, in_second, is_numbered, begun_if, has_begun, round_in}
use Rattle.stepper.specs.Exchange.{onward}

-- What tests 6 to 9 say of a round.
pub record RoundOk (n rule : ℕ) (window : List ℕ) (setting : Setting) : Type 0 where
  pub low : 1 ≤ n
  pub high : n ≤ 16
  pub known : is_rule rule ≡ true
  pub form : in_form rule (take n window) ≡ true
  pub unused : zeros (drop n window) ≡ true
  pub levels : setting_ok n setting ≡ true

pub says_round : (n rule : ℕ) (window : List ℕ) (setting : Setting) →
    Says (is_length n && (is_rule rule && (window_ok n rule window && setting_ok n setting))) (RoundOk n rule window setting)
unfolding window_ok
says_round n rule window setting = says_as
    (says_and (says_length n) (says_and (says_itself (is_rule rule)) (says_and
    (says_and (says_itself (in_form rule (take n window))) (says_itself (zeros (drop n window))))
    (says_itself (setting_ok n setting)))))
    (λ ((low, high), (known, ((form, unused), levels))).
    record { low = low; high = high; known = known; form = form; unused = unused; levels = levels })
    (λ r. ((r.low, r.high), (r.known, ((r.form, r.unused), r.levels))))

judged : (t₆ t₇ t₈ t₉ : Bool) →
    accepted (
    cond (not t₆) (Refused WindowLength) (
    cond (not t₇) (Refused RuleNumber) (
    cond (not t₈) (Refused NotWeakOrder) (
    cond (not t₉) (Refused LevelSetting) state_reply))))
    ≡ (t₆ && (t₇ && (t₈ && t₉)))
unfolding accepted
judged false t₇ t₈ t₉ = refl
judged true false t₈ t₉ = refl
judged true true false t₉ = refl
judged true true true false = refl
judged true true true true = refl

pub begin_judged : (s : Session) →
    accepted (begin_reply s)
    ≡ (is_length s.n && (is_rule s.rule && (window_ok s.n s.rule s.window && setting_ok s.n s.setting)))
unfolding begin_reply reply_if window_ok
begin_judged s = judged (is_length s.n) (is_rule s.rule) (window_ok s.n s.rule s.window) (setting_ok s.n s.setting)

-- What `has_begun` says of a session.
pub record Begun (s : Session) : Type 0 where
  pub flag : s.begun ≡ 1
  pub round : RoundOk s.n s.rule s.window s.setting
  pub within : s.done ≤ a s.n
  -- a WKO2 round is not numbered 0
  pub number : is_numbered s ≡ true

pub says_begun : (s : Session) → Says (has_begun s) (Begun s)
unfolding has_begun begun_if begin_reply
says_begun s = subst (λ b. Says (eqb s.begun 1 && (b && (leb s.done (a s.n) && is_numbered s))) (Begun s)) (sym (begin_judged s)) (says_as
    (says_and (says_eq s.begun 1) (says_and (says_round s.n s.rule s.window s.setting)
    (says_and (says_le s.done (a s.n)) (says_itself (is_numbered s)))))
    (λ (flag, (round, (within, number))). record { flag = flag; round = round; within = within; number = number })
    (λ b. (b.flag, (b.round, (b.within, b.number)))))

-- A step keeps a session begun.
module _ (s : Session) (l : length s.window ≡ 16) (b : Begun s) (lt : s.done < a s.n) where
  stepped_long : length (step (rule_of s.rule) (take s.n s.window)) ≡ s.n
  unfolding step
  stepped_long = shifted-length s.window s.n (rule_of s.rule (take s.n s.window)) l b.round.low b.round.high

  pub onward_begun : Begun (onward s)
  unfolding onward is_numbered in_second
  onward_begun =
      let w = take s.n s.window in
      let w' = step (rule_of s.rule) w in
      let long = length-take-le s.n s.window (omega (arith, b.round.high)) in
      let form = step_in_form s.rule w (omega (arith, b.round.low)) b.round.form in
      record {
        flag = b.flag;
        round = record {
          low = b.round.low;
          high = b.round.high;
          known = b.round.known;
          form = rw (take-padded w' s.n stepped_long) form;
          unused = unused_padded w' s.n stepped_long;
          levels = b.round.levels;
        };
        within = omega arith;
        number = b.number;
      }

-- a frame whose byte 7 passes test 5 begins no WKO2 round numbered 0
pub numbered : (f : List ℕ) (h : List ℤ) → round_number_ok f ≡ true → is_numbered (round_in f h) ≡ true
unfolding round_number_ok round_in is_numbered in_second
numbered f h t = by_test (is_second f) (λ e. rw e (rw e at t)) (λ e. rw e)

pub reserved_parts : (f : List ℕ) → reserved_b f ≡ true →
    (round_number_ok f ≡ true) × ((zeros (part f 8 8) ≡ true) × (zeros (part f 20 4) ≡ true))
unfolding reserved_b
reserved_parts f t =
    (says_and (says_itself (round_number_ok f)) (says_and (says_itself (zeros (part f 8 8))) (says_itself (zeros (part f 20 4))))).to t
