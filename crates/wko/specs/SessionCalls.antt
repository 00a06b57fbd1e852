-- What the calls on sessions give C: the session after the frame with 0 or the refusal's number, and the whole buffer; the session after a
-- level file, with 0 or 16.
use Rattle.std.specs.Prelude.{List, ℕ}
use Rattle.frames.specs.Answer.{reply_number}
use Rattle.stepper.specs.Exchange.{Outcome, exchange, load_levels}
use Rattle.stepper.specs.declared.session.Session.{Session}
use Rattle.stepper.specs.declared.session.Exchanged.{Exchanged as Replied}
use Rattle.wko.specs.declared.session.Exchanged.{Exchanged}
use Rattle.wko.specs.declared.session.Loaded.{Loaded}

abbrev pub for_c : Outcome → Exchanged × List ℕ
for_c o = (record { session = o.0.session; number = reply_number o.0.reply }, o.1)

unfoldable pub exchange_call : Session → List ℕ → List ℕ → Exchanged × List ℕ
unfolding exchange
exchange_call s f buffer = for_c (exchange s f buffer)

abbrev pub loaded_for_c : Replied → Loaded
loaded_for_c x = record { session = x.session; number = reply_number x.reply }

unfoldable pub load_call : Session → List ℕ → Loaded
unfolding load_levels
load_call s file = loaded_for_c (load_levels s file)
