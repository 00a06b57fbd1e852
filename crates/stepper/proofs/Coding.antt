-- A round in force gives back the begin frame that began it, and the frame gives back the round. Assumes nothing.
use mathlib.Core.Bool.{true, not, ◌&&◌}
use mathlib.Core.List.{List}
use mathlib.Core.Path.{◌≡◌, sym, ap, ◌∙◌}
use Prim.Native.Nat.{ℕ}
use lib.Dec.{eqb}
use lib.IntN.{ℤ}
use lib.ListN.{length, drop}
use borrow.Author.Tests.{eq-eqb}
use Rattle.weak_orders.specs.Says.{Says}
use Rattle.weak_orders.proofs.Tests.{says_and, says_as, says_eq}
use Rattle.levels.specs.declared.Setting.{Setting}
use Rattle.levels.proofs.Sizes.{setting_top_fits}
use Rattle.frames.specs.Fields.{part, zeros, same_bytes, unsigned16, signed16, bits16}
use Rattle.frames.specs.Question.{wko2, is_question, is_second, kind_in, letter_b, length_in, rule_in, round_number_in, setting_in, window_in}
use Rattle.frames.specs.Question.{round_number_ok, reserved_b, begin_bytes}
use Rattle.frames.proofs.ByteTests.{says_same_bytes}
use Rattle.frames.proofs.BeginBytes.{bytes_unsigned, window_last}
use Rattle.frames.proofs.Signed.{signed_bits}
use Rattle.stepper.specs.declared.session.Session.{Session}
use Rattle.stepper.specs.Exchange.{in_second, is_numbered, in_force, begun_by, again_if, is_again}
use Rattle.stepper.proofs.Begun.{Begun, says_begun}

-- What `is_again` says of a session and a frame.
pub record Again (s : Session) (f : List ℕ) : Type 0 where
  pub begun : Begun s
  pub version : s.version ≡ 2
  pub done : s.done ≡ 0
  pub same : f ≡ begun_by s

pub says_again : (s : Session) (f : List ℕ) → Says (is_again s f) (Again s f)
unfolding is_again again_if in_force in_second
says_again s f = says_as
    (says_and (says_and (says_begun s) (says_eq s.version 2)) (says_and (says_eq s.done 0) (says_same_bytes f (begun_by s))))
    (λ ((begun, version), (done, same)). record { begun = begun; version = version; done = done; same = same })
    (λ x. ((x.begun, x.version), (x.done, x.same)))

-- The round is what the frame's fields say.
module _ (s : Session) (g : List ℕ) (long : length g ≡ 40) (x : Again s g) where
  top_back : s.setting.top ≡ signed16 (unsigned16 g 16)
  unfolding begun_by begin_bytes
  top_back = sym (ap (λ f. signed16 (unsigned16 f 16)) x.same ∙ ap signed16 (bytes_unsigned (bits16 s.setting.top))
      ∙ signed_bits s.setting.top (setting_top_fits s.n s.setting x.begun.round.levels))

  spacing_back : s.setting.spacing ≡ unsigned16 g 18
  unfolding begun_by begin_bytes
  spacing_back = sym (ap (λ f. unsigned16 f 18) x.same ∙ bytes_unsigned s.setting.spacing)

  pub setting_back : s.setting ≡ setting_in g s.setting.table
  unfolding setting_in
  setting_back = made s.setting top_back spacing_back
    where
      made : (u : Setting) {top : ℤ} {spacing : ℕ} → u.top ≡ top → u.spacing ≡ spacing →
          u ≡ record { top = top; spacing = spacing; table = u.table }
      made u e e' = rw (← e, ← e')

  pub window_back : s.window ≡ window_in g
  unfolding begun_by begin_bytes
  window_back = sym (ap (drop 24) x.same) ∙ window_last g long

  pub fields_back : (s.n ≡ length_in g) × (s.rule ≡ rule_in g) × (s.round ≡ round_number_in g)
  unfolding begun_by begin_bytes
  fields_back = (sym (ap length_in x.same), sym (ap rule_in x.same), sym (ap round_number_in x.same))

  pub second_back : is_second g ≡ true
  unfolding is_second begun_by begin_bytes part
  second_back = rw (eq-eqb (length g) 40 long) ((says_same_bytes (part g 0 4) wko2).of (ap (λ f. part f 0 4) x.same))

  -- so it passes tests 3 to 5
  pub again_kind : kind_in g ≡ letter_b
  unfolding begun_by begin_bytes
  again_kind = ap kind_in x.same

  pub again_header : is_question g ≡ true
  unfolding is_question begun_by begin_bytes part same_bytes
  again_header = ap is_question x.same

  pub again_reserved : reserved_b g ≡ true
  unfolding reserved_b round_number_ok is_numbered in_second begun_by begin_bytes part zeros
  again_reserved =
      let (_, _, round) = fields_back in
      let n : not (eqb s.round 0) ≡ true = rw x.version at x.begun.number in
      rw (second_back, ← round, n) (ap (λ f. zeros (part f 8 8) && zeros (part f 20 4)) x.same)
