-- `tally_of`: a whole round from the lowest window. Assumes nothing.
use mathlib.Core.Bool.{true, ◌&&◌}
use mathlib.Core.Path.{◌≡◌, sym, ◌∙◌}
use Prim.Native.Nat.{◌≤◌}
use native.Mathlib.Omega.{arith}
use lib.Dec.{leb}
use borrow.Author.Tests.{le-leb}
use Rattle.weak_orders.proofs.Tests.{says_and, says_le}
use Rattle.ranking.specs.Counts.{a}
use Rattle.successors.specs.Rules.{is_rule}
use Rattle.successors.proofs.Steppable.{says_steppable}
use Rattle.rotating_steps.specs.Kinds.{other}
use Rattle.rotating_steps.proofs.Round.{lowest, can_start, round_others, other_le, tallied_in, tallied_out}
use Rattle.rotating_steps.proofs.tally_of.Goals.{After-contains, After-count_other-other, After-weak_order_count-all, Else-not-contains}
use Rattle.rotating_steps.proofs.tally_of.Goals.{then-not-is_rule-via-then-not-is_rule, then-not-is_rule-via-else-not-is_rule+then-not-contains}
use Rattle.rotating_steps.proofs.tally_of.Goals as goal

in_range : (c : After-contains) → (leb 1 c.args.n && leb c.args.n 8) ≡ c.contains.result
in_range c = grind arith

pub returns-then-not-is_rule : goal.returns-then-not-is_rule
returns-then-not-is_rule c = let a = c.args in
    tallied_out a.rule a.n (elim c.then-not-is_rule.branch [
      | then-not-is_rule-via-then-not-is_rule w ↦ rw (sym c.is_rule.ensures ∙ w.if-not-is_rule.true)
      | then-not-is_rule-via-else-not-is_rule+then-not-contains w ↦
          let range : (leb 1 a.n && leb a.n 8) ≡ w.contains.result = grind arith in
          rw (sym c.is_rule.ensures ∙ w.if-not-is_rule.false, range ∙ w.if-not-contains.true)
    ])

-- what the test lets through
passed : (c : Else-not-contains) → let a = c.args in (is_rule a.rule ≡ true) × ((1 ≤ a.n) × (a.n ≤ 8))
passed c = (
  sym c.is_rule.ensures ∙ c.if-not-is_rule.false,
  (says_and (says_le 1 c.args.n) (says_le c.args.n 8)).to (in_range c.before ∙ c.if-not-contains.false),
)

pub count_other-other-requires : goal.count_other-other-requires
count_other-other-requires c = let s = c.args in
    let (rule, (some, few)) = passed (goal.at.count_other-other-requires c).Else-not-contains in
    rw c.lowest.ensures ((says_steppable s.rule s.n (lowest s.rule)).of (can_start s.rule s.n rule some (omega (arith, few))))

all : (c : After-weak_order_count-all) → c.weak_order_count-all.result ≡ a c.args.n
all c = c.weak_order_count-all.ensures ∙ rw (le-leb c.args.n 16 (omega (arith, (passed c.before).1.1)))

counted : (c : After-count_other-other) →
    let s = c.args in
    c.count_other-other.result ≡ other s.rule s.n
counted c =
    let s = c.args in
    let (rule, (some, few)) = passed c.before.before.before in
    rw (c.count_other-other.ensures, all c.before.before, c.lowest.ensures) (round_others s.rule s.n rule some (omega (arith, few)))

pub overflow_sub-result : goal.overflow_sub-result
overflow_sub-result c = let s = c.args in omega (arith, counted c, all (goal.at.overflow_sub-result c).After-weak_order_count-all, other_le s.rule s.n)

pub returns : goal.returns
returns c = let s = c.args in
    let (rule, (some, few)) = passed (goal.at.returns c).Else-not-contains in
    rw (counted c, all (goal.at.returns c).After-weak_order_count-all) (tallied_in s.rule s.n rule some few)
