use borrow.Author.Rules.{rules}
use borrow.Author.Tests.{tests}
use lib.Signed.{lt_z}
use Rattle.std.proofs.lemmas.Fn.{always_returns_same}
use Rattle.levels.proofs.Tables.{falls_sorted}
use Rattle.levels.proofs.table.falls.Goals as goal

pub returns : goal.returns
returns c = falls_sorted c.args.table c.is_sorted_by.result
    (c.is_sorted_by.ensures.cases (λ x y. lt_z y x) (always_returns_same _ _ _ (λ a r f k. search (rules, tests))))
