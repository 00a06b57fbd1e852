-- Texts and what is wrong with them.
use Rattle.std.specs.Prelude.{List, [], ◌++◌, ◌≡◌, ℕ, Some, None}
use Prim.Native.String.{String}
use Rattle.frames.specs.Fields.{ascii}
use Rattle.sheets.specs.Sheet.{title_line}
use Rattle.faults.specs.Faults.{fault_of}
use Rattle.faults.specs.declared.Fault.TheVariants.{Empty, Tab, NoLineFeed, FirstLine, SecondLine, Count, RankForm, Spacing, LowestLevel}

-- a sheet's first line, and this behind it
abbrev titled : String → List ℕ
titled t = title_line ++ ascii t

pub record Examples : Type 0 where
  pub accepted : fault_of (titled "2 1 -1000 100 1,1\n") ≡ None
  pub empty : fault_of [] ≡ Some Empty
  pub tab : fault_of (titled "2\t1 -1000 100 1,1\n") ≡ Some Tab
  pub no_line_feed : fault_of (titled "2 1 -1000 100 1,1") ≡ Some NoLineFeed
  pub first_line : fault_of (ascii "n rule top spacing Start\n2 1 -1000 100 1,1\n") ≡ Some FirstLine
  pub second_line : fault_of (titled "2  1 -1000 100 1,1\n") ≡ Some SecondLine
  pub count : fault_of (titled "2 1 -1000 100 1,1,1\n") ≡ Some Count
  -- document 01: 112 is no weak order in rank form
  pub rank_form : fault_of (titled "3 1 -1000 100 1,1,2\n") ≡ Some RankForm
  pub spacing : fault_of (titled "2 1 -1000 501 1,1\n") ≡ Some Spacing
  -- -10000 - 5 × 500 is -12500
  pub lowest_level : fault_of (titled "6 1 -10000 500 1,1,1,1,1,1\n") ≡ Some LowestLevel
