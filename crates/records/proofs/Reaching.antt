-- A record is an event, and a run of records a list of events. Assumes nothing.
use Rattle.std.proofs.Common.{List, [], ◌∷◌, ◌++◌, ◌≡◌, refl, ap, ◌∙◌, ℕ, ◌+◌, ◌≤◌, arith, length-append}
use Rattle.stepper.specs.declared.session.Session.{Session}
use Rattle.records.specs.declared.Content.{Content}
use Rattle.records.specs.declared.Content.TheVariants.{Frame, LevelFile}
use Rattle.stepper.specs.Exchange.{fresh}
use Rattle.stepper.specs.ExactlyOnce.{Event, question, level_file, next, after}
use Rattle.records.specs.Answered.{answered, Comes, Reached}

pub record_comes : (content : Content) (s t : Session) (bytes buffer out : List ℕ) → (t, out) ≡ answered content s bytes buffer → Comes s t
unfolding next
record_comes LevelFile s t bytes buffer out e = record { event = level_file bytes; left = ap (λ (p : Session × List ℕ). p.0) e }
record_comes Frame s t bytes buffer out e = record {
  event = question (record { frame = bytes; buffer = buffer });
  left = ap (λ (p : Session × List ℕ). p.0) e;
}

-- an event more, at the end of a list
pub after_more : (s : Session) (l : List Event) (e : Event) → after s (l ++ (e ∷ [])) ≡ next (after s l) e
unfolding after
after_more s [] e = refl
after_more s (x ∷ l) e = after_more (next s x) l e

pub reached_fresh : (s : Session) → s ≡ fresh → Reached 0 s
unfolding after
reached_fresh s e = record { events = []; few = omega arith; left = e }

pub reached_more : (k : ℕ) (s t : Session) → Reached k s → Comes s t → Reached (k + 1) t
reached_more k s t r x = record {
  events = r.events ++ (x.event ∷ []);
  few = omega (arith, length-append r.events (x.event ∷ []), r.few);
  left = x.left ∙ rw (r.left, after_more fresh r.events x.event);
}

pub reached_fewer : {k : ℕ} (m : ℕ) (s : Session) → Reached k s → k ≤ m → Reached m s
reached_fewer m s r le = record { events = r.events; few = omega (arith, r.few); left = r.left }
