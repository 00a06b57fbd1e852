-- What a fault means; proved in proofs/Explained.
use Rattle.std.specs.Prelude.{true, false, List, ◌⊎◌, ◌≡◌, ℕ, ◌-◌, negsuc, length, Some}
use Rattle.std.proofs.Math.Option.{some}
use Rattle.std.specs.Int.Signed.{le_z}
use Rattle.std.specs.Option.{option_map}
use Rattle.std.specs.Result.{result_err}
use Rattle.refusals.specs.declared.Cause.{Cause}
use Rattle.refusals.specs.declared.Cause.TheVariants.{WindowLength, RuleNumber, NotWeakOrder, LevelSetting, SheetMalformed}
use Rattle.successors.specs.Rules.{in_form}
use Rattle.levels.specs.Level.{setting_of, lowered, top_ok, spacing_ok}
use Rattle.sheets.specs.Sheet.{RawSheet, parse}
use Rattle.sheets.specs.Judgement.{judged_text}
use Rattle.faults.specs.Faults.{fault_of}
use Rattle.faults.specs.declared.Fault.{Fault}
use Rattle.faults.specs.declared.Fault.TheVariants.{Empty, TooLong, CarriageReturn, Tab, NotAscii, NoLineFeed, FirstLine}
use Rattle.faults.specs.declared.Fault.TheVariants.{SecondLine, Length, Rule, Count, RankForm, HeightForm, Top, Spacing, LowestLevel}

-- the cause that a fault explains
abbrev pub cause_of : Fault → Cause
cause_of Empty = SheetMalformed
cause_of TooLong = SheetMalformed
cause_of CarriageReturn = SheetMalformed
cause_of Tab = SheetMalformed
cause_of NotAscii = SheetMalformed
cause_of NoLineFeed = SheetMalformed
cause_of FirstLine = SheetMalformed
cause_of SecondLine = SheetMalformed
cause_of Length = WindowLength
cause_of Rule = RuleNumber
cause_of Count = NotWeakOrder
cause_of RankForm = NotWeakOrder
cause_of HeightForm = NotWeakOrder
cause_of Top = LevelSetting
cause_of Spacing = LevelSetting
cause_of LowestLevel = LevelSetting

-- n symbols that are not in the rule's form
pub record Formless (x : RawSheet) : Type 0 where
  pub count : length x.start ≡ x.n
  pub form : in_form x.rule x.start ≡ false

-- top and spacing are in range, and the lowest of n levels, before it is rounded, is below -12000
pub record TooLow (x : RawSheet) : Type 0 where
  pub top : top_ok x.top ≡ true
  pub spacing : spacing_ok x.spacing ≡ true
  pub level : le_z (negsuc 11999) (lowered (setting_of x.top x.spacing) (x.n - 1)) ≡ false

pub record Claims : Type 0 where
  -- the fault explains the very judgement of the text: no fault just if it is accepted, and otherwise a fault of the cause that is printed
  pub cause : (s : List ℕ) → result_err (judged_text s) ≡ option_map cause_of (fault_of s)
  -- where the form is at fault, the text reads as a sheet whose n symbols are not in the rule's form
  pub form : (s : List ℕ) → (fault_of s ≡ Some RankForm) ⊎ (fault_of s ≡ Some HeightForm) → (x : RawSheet) × (parse s ≡ some x) × Formless x
  -- where the lowest level is at fault, it reads as one whose lowest level alone is
  pub lowest : (s : List ℕ) → fault_of s ≡ Some LowestLevel → (x : RawSheet) × (parse s ≡ some x) × TooLow x
