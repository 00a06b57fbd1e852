-- The levels of an accepted round (document 02, Paper 2). Proved in proofs/RoundLevels.
use Rattle.std.specs.Prelude.{true, ◌≡◌, take}
use Rattle.levels.specs.Levels.{Levels}
use Rattle.stepper.specs.declared.session.Session.{Session}
use Rattle.stepper.specs.Exchange.{has_begun}

-- Whatever window a session that counts as begun holds, its levels tie just where its symbols do, and fall as they grow. An accepted begin
-- frame leaves such a session, and so does every step after it (`begun_reference` and `begun_retried` of `ExactlyOnce`).
abbrev pub RoundLevels : Type 0
RoundLevels = (s : Session) → has_begun s ≡ true → Levels s.rule s.setting (take s.n s.window)
