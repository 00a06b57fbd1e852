-- `Pattern::of`: refused for the first two tests, or a pattern. Assumes nothing.
use mathlib.Core.Bool.{true}
use mathlib.Core.Path.{◌≡◌, sym, ◌∙◌}
use Prim.Native.Nat.{◌≤◌}
use native.Mathlib.Omega.{arith}
use lib.ListN.{length, take}
use borrow.Author.Rules.{rules}
use Rattle.weak_orders.specs.Window.{is_length}
use Rattle.weak_orders.proofs.FormTests.{says_length}
use Rattle.filling.specs.Answers.{judged_pattern}
use Rattle.filling.specs.Pattern.{is_pattern}
use Rattle.filling.proofs.Scans.{allowed_all}
use Rattle.filling.proofs.Pattern.of.Goals.{After-all_allowed, Else-not-is_length}
use Rattle.filling.proofs.Pattern.of.Goals as goal

long : (c : Else-not-is_length) → is_length c.args.n ≡ true
long c = sym c.is_length.ensures ∙ c.if-not-is_length.false

pub returns-then-not-is_length-clause-refused : goal.returns-then-not-is_length-clause-refused
unfolding judged_pattern
returns-then-not-is_length-clause-refused c = rw (sym c.is_length.ensures ∙ c.if-not-is_length.true)

few : (c : Else-not-is_length) → (1 ≤ c.args.n) × (c.args.n ≤ 16)
few c = (says_length _).to (long c)

pub all_allowed-requires : goal.all_allowed-requires
all_allowed-requires c = (few (goal.at.all_allowed-requires c).Else-not-is_length).1

-- each byte tested
tested : (c : After-all_allowed) → c.args.n ≤ 16 → is_pattern c.args.n (take c.args.n c.args.bytes) ≡ c.all_allowed.result
tested c le =
    let a = c.args in
    let l : length a.bytes ≡ 16 = search rules in
    allowed_all a.n a.bytes (omega arith) ∙ sym c.all_allowed.ensures

pub returns-then-not-all_allowed-clause-refused : goal.returns-then-not-all_allowed-clause-refused
unfolding judged_pattern
returns-then-not-all_allowed-clause-refused c = let g = goal.at.returns-then-not-all_allowed-clause-refused c in
    rw (long g.Else-not-is_length, tested g.After-all_allowed (few g.Else-not-is_length).1 ∙ c.if-not-all_allowed.true)

pub invariant_of-result : goal.invariant_of-result
invariant_of-result c = let g = goal.at.invariant_of-result c in
    let ln = few g.Else-not-is_length in
    record { some = ln.0; short = ln.1; allowed = tested g.After-all_allowed ln.1 ∙ c.if-not-all_allowed.false }
