-- `next_in_ranks`: one table tests the form and gives the symbol. Assumes nothing.
use mathlib.Core.Path.{◌≡◌, refl, sym, ◌∙◌}
use borrow.Author.Rules.{rules}
use native.Mathlib.Omega.{arith}
use lib.ListN.{length, take, get_or}
use Rattle.weak_orders.proofs.FormTests.{says_length, rank_low}
use Rattle.weak_orders.proofs.Parts.{at_part}
use Rattle.successors.specs.NextSymbol.{judged}
use Rattle.successors.proofs.RuleNumbers.{form_rank}
use Rattle.successors.proofs.Steppable.{steppable_of, judged_by_table}
use Rattle.successors.proofs.rank_rule.next_in_ranks.Goals as goal

-- the test of the table is the test of the form, so the verdict by it is the rule's
pub invariant_of-window : goal.invariant_of-window
invariant_of-window c =
    let a = c.args in
    let l : length a.w ≡ 16 = search rules in
    let told : c.judge.result ≡ judged 1 a.n (take a.n a.w) = c.judge.ensures ∙ rw c.is_rank_table.ensures (judged_by_table a.n a.w c.counts-t.result l c.counts-t.ensures.value) in
    let (known, (long, form)) = steppable_of 1 a.n a.w l (sym told ∙ c.in_ok-judge.was) in
    let (pos, le) = (says_length a.n).to long in
    let rank = sym (form_rank 1 (take a.n a.w) refl) ∙ form in
    record {
      some = pos;
      most = le;
      form = rank;
      low = λ k lt. rank_low a.w a.n l le rank (get_or a.w k 0) (at_part a.w 0 a.n (omega arith) k (omega arith) lt);
      counted = c.counts-t.ensures.value;
    }
