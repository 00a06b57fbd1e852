-- `successor1` is rule 1: each return is the case of the definition that applies. Assumes nothing.
use mathlib.Core.Bool.{false, ◌&&◌}
use mathlib.Core.Path.{◌≡◌, refl, sym, ◌∙◌}
use Prim.Native.Nat.{◌+◌}
use borrow.Author.Rules.{rules}
use lib.Dec.{eqb}
use lib.ListN.{length, get_or}
use borrow.Author.Tests.{eq-eqb, ne_eqb}
use Rattle.successors.proofs.RankWindows.{head, chain, is_largest}
use Rattle.successors.proofs.rank_rule.RankWindow.successor1.Goals.{Start, Joined-else-plain, Joined-else-plain-2, else-plain-via-then-plain+else-a-ones, else-plain-via-else-plain, else-plain-2-via-then-plain-2+else-a-eq1, else-plain-2-via-else-plain-2}
use Rattle.successors.proofs.rank_rule.RankWindow.successor1.Goals as goal

sixteen : (s : Start) → length s.args.self.w ≡ 16
sixteen s = search rules

-- the first two tests failed
not_all : (c : Joined-else-plain) → let r = c.args.self in (c.all_pass-plain.result && eqb (head r) (get_or r.t 1 0 + 1)) ≡ false
not_all c = elim c.else-plain.branch [
  | else-plain-via-then-plain+else-a-ones w ↦ rw (w.if-plain.true, ne_eqb _ _ w.if-a-ones.false)
  | else-plain-via-else-plain w ↦ rw w.if-plain.false
]

not_one : (c : Joined-else-plain-2) → (c.all_pass-plain.result && eqb (head c.args.self) 1) ≡ false
not_one c = elim c.else-plain-2.branch [
  | else-plain-2-via-then-plain-2+else-a-eq1 w ↦ rw (w.if-plain-2.true, ne_eqb _ 1 w.if-a-eq1.false)
  | else-plain-2-via-else-plain-2 w ↦ rw w.if-plain-2.false
]

pub returns-then-a-ones : goal.returns-then-a-ones
returns-then-a-ones c =
    sym (chain c.args.self (sixteen (goal.at.returns-then-a-ones c).Start) _ c.all_pass-plain.ensures _ refl ∙ rw (c.if-plain.true, eq-eqb _ _ c.if-a-ones.true))

pub returns-then-a-eq1 : goal.returns-then-a-eq1
returns-then-a-eq1 c =
    let at = goal.at.returns-then-a-eq1 c in
    sym (chain c.args.self (sixteen at.Start) _ c.all_pass-plain.ensures _ refl ∙ rw (not_all at.Joined-else-plain, c.if-plain-2.true, eq-eqb _ 1 c.if-a-eq1.true))

pub returns-then-is_case3 : goal.returns-then-is_case3
returns-then-is_case3 c =
    let at = goal.at.returns-then-is_case3 c in
    let l = sixteen at.Start in
    rw c.from.ensures
    (sym (chain c.args.self l _ c.all_pass-plain.ensures _ refl ∙ rw (not_all at.Joined-else-plain, not_one at.Joined-else-plain-2, sym c.is_case3.ensures ∙ c.if-is_case3.true)))

pub returns-then-is_case4 : goal.returns-then-is_case4
returns-then-is_case4 c =
    let r = c.args.self in
    let at = goal.at.returns-then-is_case4 c in
    let l = sixteen at.Start in
    sym (chain r l _ c.all_pass-plain.ensures c.largest_below-p.result (is_largest r l _ c.largest_below-p.ensures)
    ∙ rw (not_all at.Joined-else-plain, not_one at.Joined-else-plain-2, sym c.is_case3.ensures ∙ c.if-is_case3.false, sym c.is_case4.ensures ∙ c.if-is_case4.true))

pub returns-else-is_case4 : goal.returns-else-is_case4
returns-else-is_case4 c =
    let r = c.args.self in
    let at = goal.at.returns-else-is_case4 c in
    let l = sixteen at.Start in
    sym (chain r l _ c.all_pass-plain.ensures c.largest_below-p.result (is_largest r l _ c.largest_below-p.ensures)
    ∙ rw (not_all at.Joined-else-plain, not_one at.Joined-else-plain-2, sym c.is_case3.ensures ∙ c.if-is_case3.false, sym c.is_case4.ensures ∙ c.if-is_case4.false))
