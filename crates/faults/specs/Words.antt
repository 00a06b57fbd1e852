-- What a person is told of a fault.
use Rattle.std.specs.Prelude.{List, ℕ, codes}
use Rattle.faults.specs.declared.Fault.{Fault}
use Rattle.faults.specs.declared.Fault.TheVariants.{Empty, TooLong, CarriageReturn, Tab, NotAscii, NoLineFeed, FirstLine, SecondLine}
use Rattle.faults.specs.declared.Fault.TheVariants.{Length, Rule, Count, RankForm, HeightForm, Top, Spacing, LowestLevel}

abbrev pub words : Fault → List ℕ
words Empty = codes "the sheet is empty"
words TooLong = codes "the sheet is longer than 128 bytes"
words CarriageReturn = codes "the sheet has a carriage return: end its lines with a line feed alone"
words Tab = codes "the sheet has a tab: put single spaces between its fields"
words NotAscii = codes "the sheet has a byte above 127: write it in plain ASCII, without a byte order mark"
words NoLineFeed = codes "the sheet does not end with a line feed"
words FirstLine = codes "the first line is not: n rule top spacing start"
words SecondLine = codes "the second line is not five fields such as 3 1 -1000 100 1,1,1 (single spaces, decimals of at most 6 digits without leading zeros, 1 to 16 symbols with commas), or more follows it"
words Length = codes "n is not 1 to 8"
words Rule = codes "the rule is not 1, 2 or 3"
words Count = codes "the start has not n symbols"
words RankForm = codes "the start is not in rank form, as rule 1 asks: each symbol is 1 plus the number of smaller ones, such as 1,1,3"
words HeightForm = codes "the start is not in height form, as rules 2 and 3 ask: its symbols are 0 to some height without a gap, such as 0,0,1"
words Top = codes "top is not -10000 to 2000, in hundredths of a dBm"
words Spacing = codes "spacing is not 25 to 500, in hundredths of a dB"
words LowestLevel = codes "top - (n - 1) * spacing, the lowest level before it is rounded, is below -12000"
