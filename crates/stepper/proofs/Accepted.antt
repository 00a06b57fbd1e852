-- What is known of what a frame comes to, along the chain of its tests; and where it is accepted. Assumes nothing.
use mathlib.Core.Bool.{Bool, true, false, cond, false≢true}
use mathlib.Core.Path.{◌≡◌, refl}
use Rattle.refusals.specs.declared.Cause.{Cause}
use Rattle.frames.specs.Answer.{accepted}
use Rattle.stepper.specs.declared.session.Exchanged.{Exchanged}
use Rattle.stepper.specs.declared.session.Session.{Session}
use Rattle.stepper.specs.Exchange.{refuse}

pub by_cond : (P : Exchanged → Type 0) (b : Bool) {x y : Exchanged} → (b ≡ true → P x) → (b ≡ false → P y) → P (cond b x y)
by_cond P true f g = f refl
by_cond P false f g = g refl

pub record IfAccepted (P : Exchanged → Type 0) (x : Exchanged) : Type 0 where
  pub known : accepted x.reply ≡ true → P x

pub if_refused : {P : Exchanged → Type 0} (s : Session) (cause : Cause) → IfAccepted P (refuse s cause)
unfolding accepted
if_refused s cause = record { known = λ t. absurd (false≢true t) }

pub if_cond : {P : Exchanged → Type 0} (b : Bool) {x y : Exchanged} → (b ≡ true → IfAccepted P x) → (b ≡ false → IfAccepted P y) →
    IfAccepted P (cond b x y)
if_cond {P} = by_cond (IfAccepted P)
