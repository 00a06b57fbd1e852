-- Any frame to any session: a refused one leaves the session and gets its number, an accepted one its forty bytes. Assumes nothing.
use mathlib.Core.Bool.{Bool, true, false, false≢true}
use mathlib.Core.List.{List, [], ◌∷◌, ◌++◌}
use mathlib.Core.Path.{◌≡◌, refl, ap, ◌∙◌}
use Prim.Native.Nat.{ℕ, ◌≤◌}
use native.Mathlib.Omega.{arith}
use native.Mathlib.Decide.{dec_lt}
use lib.ListN.{length, take, drop, length-take}
use Rattle.refusals.specs.declared.Cause.{Cause}
use Rattle.refusals.specs.declared.Cause.TheVariants.{ShortBuffer, WindowLength, NotBegun}
use Rattle.weak_orders.specs.Window.{padded}
use Rattle.weak_orders.proofs.Padded.{length-padded}
use Rattle.frames.specs.declared.answer.Reply.{Reply}
use Rattle.frames.specs.declared.answer.Reply.TheVariants.{Accepted, Refused}
use Rattle.frames.specs.Answer.{accepted, header_for, answer_bytes}
use Rattle.frames.specs.Question.{is_second}
use Rattle.stepper.specs.declared.session.Session.{Session}
use Rattle.stepper.specs.Exchange.{fresh, handle, answer_to, exchange}
use Rattle.stepper.specs.ExactlyOnce.{Rejected}
use Rattle.stepper.specs.EveryFrame.{AcceptedFrame, EveryFrame, beginning17, EveryFrameInstance}
use Rattle.stepper.specs.Example.{beginning, asking, lent, odd, left_reference}
use Rattle.stepper.proofs.ExactlyOnce.{written_bytes, written_rest, bytes_long, rejected_written, rejected_short}
use Rattle.stepper.proofs.Handling.{written, room, no_room}
use Rattle.stepper.proofs.Outcomes.{handle-length, handle_refuses}

-- an accepted answer starts with its header and zero
front_of : (second : Bool) (round : ℕ) (reply : Reply) (different done : ℕ) (w behind : List ℕ) → accepted reply ≡ true →
    take 5 (answer_bytes second round reply different done w ++ behind) ≡ header_for second ++ (0 ∷ [])
unfolding answer_bytes accepted
front_of true round (Accepted symbol level) different done w behind t = refl
front_of false round (Accepted symbol level) different done w behind t = refl
front_of second round (Refused cause) different done w behind t = absurd (false≢true t)

module _ (s : Session) (f buffer : List ℕ) where
  when_refused : (cause : Cause) → (exchange s f buffer).0.reply ≡ Refused cause → Rejected cause s f buffer (exchange s f buffer)
  unfolding written
  when_refused cause e = elim (dec_lt (length buffer) 40) [
    | yes l ↦
        let short : Refused ShortBuffer ≡ Refused cause = rw (no_room s f buffer l) at e in
        let same : ShortBuffer ≡ cause = cc in
        rw (no_room s f buffer l, ← same) (rejected_short s f buffer l)
    | no l ↦
        let long : 40 ≤ length buffer = omega arith in
        let handled = handle_refuses s f cause (rw (room s f buffer long) at e) in
        rw (room s f buffer long, handled) (rejected_written s cause f buffer long)
  ]

  -- an accepted answer has forty bytes, since its window has at most sixteen symbols
  answer_long : accepted (handle s f).reply ≡ true → length (answer_to (is_second f) (handle s f)) ≡ 40
  unfolding answer_to
  answer_long t =
      let x = handle s f in
      let w = take x.session.n x.session.window in
      let few : length w ≤ 16 = omega (arith, length-take x.session.n x.session.window, handle-length s f t) in
      bytes_long (is_second f) _ x.reply _ x.session.done (padded w) (length-padded w few)

  when_accepted : accepted (exchange s f buffer).0.reply ≡ true → AcceptedFrame f buffer (exchange s f buffer)
  unfolding accepted written answer_to
  when_accepted t = elim (dec_lt (length buffer) 40) [
    | yes l ↦ absurd (false≢true (rw (no_room s f buffer l) at t))
    | no l ↦
        let long : 40 ≤ length buffer = omega arith in
        let t' : accepted (handle s f).reply ≡ true = rw (room s f buffer long) at t in
        let forty = answer_long t' in
        let bytes = written_bytes (is_second f) (handle s f) buffer forty in
        rw (room s f buffer long) (record {
          room = long;
          long = ap length bytes ∙ forty;
          front = front_of (is_second f) _ (handle s f).reply _ _ _ (drop 40 buffer) t';
          rest = written_rest (is_second f) (handle s f) buffer forty;
        })
  ]

pub every_frame : EveryFrame
every_frame = record { when_refused = when_refused; when_accepted = when_accepted }

pub every_frame_instance : EveryFrameInstance
unfolding beginning asking lent odd left_reference beginning17 fresh exchange
every_frame_instance = record {
  refused_begin = when_refused left_reference beginning17 (lent 41) WindowLength refl;
  refused_bytes = refl;
  refused_query = when_refused odd asking (lent 40) NotBegun refl;
  accepted_query = when_accepted left_reference asking (lent 41) refl;
}
