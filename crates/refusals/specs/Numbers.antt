-- The numbers of the refusals (document 01, "Turned down", and document 02), and what a direct call returns for them.
use Rattle.std.specs.Prelude.{ℕ, ◌+◌, Result, Ok, Err}
use Rattle.refusals.specs.declared.Cause.{Cause}
use Rattle.refusals.specs.declared.Cause.TheVariants.{ShortBuffer, FrameLength, FrameHeader, FrameKind, ReservedByte}
use Rattle.refusals.specs.declared.Cause.TheVariants.{WindowLength, RuleNumber, NotWeakOrder, LevelSetting, NotBegun}
use Rattle.refusals.specs.declared.Cause.TheVariants.{StepNumber, RoundFinished, NoSuchPlace, SheetMalformed, NoFilling, LevelFile}
use Rattle.refusals.specs.declared.Cause.TheVariants.{OtherVersion, OtherRound, RoundInForce}

abbrev pub cause_number : Cause → ℕ
cause_number ShortBuffer = 1
cause_number FrameLength = 2
cause_number FrameHeader = 3
cause_number FrameKind = 4
cause_number ReservedByte = 5
cause_number WindowLength = 6
cause_number RuleNumber = 7
cause_number NotWeakOrder = 8
cause_number LevelSetting = 9
cause_number NotBegun = 10
cause_number StepNumber = 11
cause_number RoundFinished = 12
cause_number NoSuchPlace = 13
cause_number SheetMalformed = 14
-- document 02, Paper 1
cause_number NoFilling = 15
-- Paper 4
cause_number LevelFile = 16
-- Paper 6
cause_number OtherVersion = 17
cause_number OtherRound = 18
cause_number RoundInForce = 19

-- "256 + number means refused"
abbrev pub refusal : Cause → ℕ
refusal c = 256 + cause_number c

-- "0 means done"
abbrev pub returned : {A : Type 0} → Result A Cause → ℕ
returned (Ok _) = 0
returned (Err c) = refusal c
