-- The worked examples, by computation. Assumes nothing.
use mathlib.Core.Bool.{true}
use mathlib.Core.List.{List, [], ◌∷◌}
use mathlib.Core.Path.{◌≡◌, refl, sym}
use Prim.Native.Nat.{ℕ, ◌≤◌, ◌<◌}
use native.Mathlib.Omega.{arith}
use Rattle.weak_orders.specs.Window.{iter, is_rank, heights}
use Rattle.rotations.specs.Rotation.{start}
use Rattle.ranking.specs.Counts.{a}
use Rattle.ranking.specs.Dictionary.{place}
use Rattle.successors.specs.Rules.{rule1, rule2, rule3, rule_of, in_form, WeakOrder, is_rule, step}
use Rattle.universal_cycle.specs.Examples.{WorkedExamples, GivenValues, round_of, SmallRounds, StepsApart, SmallStarts}
use Rattle.universal_cycle.specs.Round.{Tour}
use Rattle.universal_cycle.specs.TwoStarts.{moved}
use Rattle.universal_cycle.proofs.Rounds.{universal_cycle}
use Rattle.universal_cycle.proofs.TwoStarts.{two_starts}

pub worked_examples : WorkedExamples
unfolding rule1 rule2 rule3 place heights
worked_examples = record {
  rule1_111 = refl;
  rule1_113 = refl;
  rule1_312 = refl;
  rule1_221 = refl;
  rule1_212 = refl;
  rule1_3131 = refl;
  rule2_100 = refl;
  rule2_110 = refl;
  rule2_210 = refl;
  rule3_000 = refl;
  rule3_010 = refl;
  rule3_210 = refl;
  place_201 = refl;
  heights_82512276 = refl;
}

pub given_values : GivenValues
unfolding rule1 rule2 rule3 start is_rank
given_values = record {
  rule1_321 = refl;
  start_3131 = refl;
  rule1_1 = refl;
  rule2_0 = refl;
  rule3_0 = refl;
  rank_122 = refl;
  rank_113 = refl;
  not_rank_112 = refl;
}

pub small_rounds : SmallRounds
unfolding round_of
small_rounds = record {
  rule1_of_1 = refl;
  rule2_of_1 = refl;
  rule3_of_1 = refl;
  rule1_of_2 = refl;
  rule2_of_2 = refl;
  rule3_of_2 = refl;
  rule1_of_3 = refl;
  rule2_of_3 = refl;
  rule3_of_3 = refl;
}

-- The theorem there: its hypotheses are met.
pub tour_of_1 : Tour (WeakOrder 1 1) (step (rule_of 1)) 1 (1 ∷ [])
unfolding is_rule in_form a
tour_of_1 = universal_cycle 1 refl 1 (omega arith) (1 ∷ []) (refl, refl)

pub tour_of_2 : Tour (WeakOrder 2 2) (step (rule_of 2)) 3 (1 ∷ 0 ∷ [])
unfolding is_rule in_form a
tour_of_2 = universal_cycle 2 refl 2 (omega arith) (1 ∷ 0 ∷ []) (refl, refl)

pub tour_of_3 : Tour (WeakOrder 3 3) (step (rule_of 3)) 13 (2 ∷ 0 ∷ 1 ∷ [])
unfolding is_rule in_form a
tour_of_3 = universal_cycle 3 refl 3 (omega arith) (2 ∷ 0 ∷ 1 ∷ []) (refl, refl)

-- The two starts there, and the number of steps: it is the only one.
steps_between : (r : ℕ) → is_rule r ≡ true → (n : ℕ) → 1 ≤ n → (u v : List ℕ) → WeakOrder n r u → WeakOrder n r v →
    (c : ℕ) → c < a n → iter (step (rule_of r)) c u ≡ v → StepsApart r n u v c
steps_between r t n pos u v p q c lt e = let b = two_starts r t n pos u v p q in (b, sym (b.only c lt e))

pub small_starts : SmallStarts
unfolding is_rule in_form a iter step rule_of round_of moved
small_starts = record {
  rule1_111_131 = steps_between 1 refl 3 (omega arith) _ _ (refl, refl) (refl, refl) 5 (omega arith) refl;
  rule2_000_201 = steps_between 2 refl 3 (omega arith) _ _ (refl, refl) (refl, refl) 6 (omega arith) refl;
  rule3_201_000 = steps_between 3 refl 3 (omega arith) _ _ (refl, refl) (refl, refl) 4 (omega arith) refl;
  rule2_001_000 = steps_between 2 refl 3 (omega arith) _ _ (refl, refl) (refl, refl) 12 (omega arith) refl;
  rule3_102_102 = steps_between 3 refl 3 (omega arith) _ _ (refl, refl) (refl, refl) 0 (omega arith) refl;
  rule1_lists = refl;
  rule2_lists = refl;
  rule3_lists = refl;
  moved_2 = refl;
}
