-- The worked examples of document 01 ("Contracts and examples"), as statements about the definitions; small rounds, and two starts of them
-- (document 02, Paper 13).
use Rattle.std.specs.Prelude.{true, false, List, [], ◌∷◌, ◌≡◌, ℕ}
use Rattle.weak_orders.specs.Window.{is_rank, heights}
use Rattle.rotations.specs.Rotation.{start}
use Rattle.ranking.specs.Counts.{a}
use Rattle.ranking.specs.Dictionary.{place}
use Rattle.successors.specs.Rules.{rule1, rule2, rule3, rule_of, step}
use Rattle.universal_cycle.specs.TwoStarts.{listed, moved, Between}

-- the fourteen examples that document 01 wants proved
pub record WorkedExamples : Type 0 where
  pub rule1_111 : rule1 (1 ∷ 1 ∷ 1 ∷ []) ≡ 3
  pub rule1_113 : rule1 (1 ∷ 1 ∷ 3 ∷ []) ≡ 2
  pub rule1_312 : rule1 (3 ∷ 1 ∷ 2 ∷ []) ≡ 2
  pub rule1_221 : rule1 (2 ∷ 2 ∷ 1 ∷ []) ≡ 2
  pub rule1_212 : rule1 (2 ∷ 1 ∷ 2 ∷ []) ≡ 3
  pub rule1_3131 : rule1 (3 ∷ 1 ∷ 3 ∷ 1 ∷ []) ≡ 4
  pub rule2_100 : rule2 (1 ∷ 0 ∷ 0 ∷ []) ≡ 0
  pub rule2_110 : rule2 (1 ∷ 1 ∷ 0 ∷ []) ≡ 2
  pub rule2_210 : rule2 (2 ∷ 1 ∷ 0 ∷ []) ≡ 0
  pub rule3_000 : rule3 (0 ∷ 0 ∷ 0 ∷ []) ≡ 1
  pub rule3_010 : rule3 (0 ∷ 1 ∷ 0 ∷ []) ≡ 2
  pub rule3_210 : rule3 (2 ∷ 1 ∷ 0 ∷ []) ≡ 1
  pub place_201 : place (2 ∷ 0 ∷ 1 ∷ []) ≡ 11
  pub heights_82512276 : heights (8 ∷ 2 ∷ 5 ∷ 1 ∷ 2 ∷ 2 ∷ 7 ∷ 6 ∷ []) ≡ (5 ∷ 1 ∷ 2 ∷ 0 ∷ 1 ∷ 1 ∷ 4 ∷ 3 ∷ [])

-- further values that the text of document 01 gives
pub record GivenValues : Type 0 where
  pub rule1_321 : rule1 (3 ∷ 2 ∷ 1 ∷ []) ≡ 3
  pub start_3131 : start (3 ∷ 1 ∷ 3 ∷ 1 ∷ []) ≡ 2
  pub rule1_1 : rule1 (1 ∷ []) ≡ 1
  pub rule2_0 : rule2 (0 ∷ []) ≡ 0
  pub rule3_0 : rule3 (0 ∷ []) ≡ 0
  pub rank_122 : is_rank (1 ∷ 2 ∷ 2 ∷ []) ≡ true
  pub rank_113 : is_rank (1 ∷ 1 ∷ 3 ∷ []) ≡ true
  pub not_rank_112 : is_rank (1 ∷ 1 ∷ 2 ∷ []) ≡ false

-- the windows after the steps 1 to a(n) of a rule
unfoldable pub round_of : ℕ → ℕ → List ℕ → List (List ℕ)
unfolding listed step rule_of a
round_of r n s = listed (step (rule_of r)) (a n) s

-- the rounds of 1, 2 and 3 symbols, from the window of ones or of zeros
pub record SmallRounds : Type 0 where
  pub rule1_of_1 : round_of 1 1 (1 ∷ []) ≡ (
      (1 ∷ [])
      ∷ [])
  pub rule2_of_1 : round_of 2 1 (0 ∷ []) ≡ (
      (0 ∷ [])
      ∷ [])
  pub rule3_of_1 : round_of 3 1 (0 ∷ []) ≡ (
      (0 ∷ [])
      ∷ [])
  pub rule1_of_2 : round_of 1 2 (1 ∷ 1 ∷ []) ≡ (
      (1 ∷ 2 ∷ [])
      ∷ (2 ∷ 1 ∷ [])
      ∷ (1 ∷ 1 ∷ [])
      ∷ [])
  pub rule2_of_2 : round_of 2 2 (0 ∷ 0 ∷ []) ≡ (
      (0 ∷ 1 ∷ [])
      ∷ (1 ∷ 0 ∷ [])
      ∷ (0 ∷ 0 ∷ [])
      ∷ [])
  pub rule3_of_2 : round_of 3 2 (0 ∷ 0 ∷ []) ≡ (
      (0 ∷ 1 ∷ [])
      ∷ (1 ∷ 0 ∷ [])
      ∷ (0 ∷ 0 ∷ [])
      ∷ [])
  pub rule1_of_3 : round_of 1 3 (1 ∷ 1 ∷ 1 ∷ []) ≡ (
      (1 ∷ 1 ∷ 3 ∷ [])
      ∷ (1 ∷ 3 ∷ 2 ∷ [])
      ∷ (3 ∷ 2 ∷ 1 ∷ [])
      ∷ (2 ∷ 1 ∷ 3 ∷ [])
      ∷ (1 ∷ 3 ∷ 1 ∷ [])
      ∷ (3 ∷ 1 ∷ 2 ∷ [])
      ∷ (1 ∷ 2 ∷ 2 ∷ [])
      ∷ (2 ∷ 2 ∷ 1 ∷ [])
      ∷ (2 ∷ 1 ∷ 2 ∷ [])
      ∷ (1 ∷ 2 ∷ 3 ∷ [])
      ∷ (2 ∷ 3 ∷ 1 ∷ [])
      ∷ (3 ∷ 1 ∷ 1 ∷ [])
      ∷ (1 ∷ 1 ∷ 1 ∷ [])
      ∷ [])
  pub rule2_of_3 : round_of 2 3 (0 ∷ 0 ∷ 0 ∷ []) ≡ (
      (0 ∷ 0 ∷ 1 ∷ [])
      ∷ (0 ∷ 1 ∷ 0 ∷ [])
      ∷ (1 ∷ 0 ∷ 1 ∷ [])
      ∷ (0 ∷ 1 ∷ 2 ∷ [])
      ∷ (1 ∷ 2 ∷ 0 ∷ [])
      ∷ (2 ∷ 0 ∷ 1 ∷ [])
      ∷ (0 ∷ 1 ∷ 1 ∷ [])
      ∷ (1 ∷ 1 ∷ 0 ∷ [])
      ∷ (1 ∷ 0 ∷ 2 ∷ [])
      ∷ (0 ∷ 2 ∷ 1 ∷ [])
      ∷ (2 ∷ 1 ∷ 0 ∷ [])
      ∷ (1 ∷ 0 ∷ 0 ∷ [])
      ∷ (0 ∷ 0 ∷ 0 ∷ [])
      ∷ [])
  pub rule3_of_3 : round_of 3 3 (0 ∷ 0 ∷ 0 ∷ []) ≡ (
      (0 ∷ 0 ∷ 1 ∷ [])
      ∷ (0 ∷ 1 ∷ 0 ∷ [])
      ∷ (1 ∷ 0 ∷ 2 ∷ [])
      ∷ (0 ∷ 2 ∷ 1 ∷ [])
      ∷ (2 ∷ 1 ∷ 0 ∷ [])
      ∷ (1 ∷ 0 ∷ 1 ∷ [])
      ∷ (0 ∷ 1 ∷ 2 ∷ [])
      ∷ (1 ∷ 2 ∷ 0 ∷ [])
      ∷ (2 ∷ 0 ∷ 1 ∷ [])
      ∷ (0 ∷ 1 ∷ 1 ∷ [])
      ∷ (1 ∷ 1 ∷ 0 ∷ [])
      ∷ (1 ∷ 0 ∷ 0 ∷ [])
      ∷ (0 ∷ 0 ∷ 0 ∷ [])
      ∷ [])

-- so many steps lead from u to v under a rule, and no other number below a(n) does
abbrev pub StepsApart : ℕ → ℕ → List ℕ → List ℕ → ℕ → Type 0
StepsApart r n u v c = (b : Between (step (rule_of r)) (a n) u v) × (b.steps ≡ c)

-- two starts of three symbols under each rule, and their lists; the longest way that there is; one start twice
pub record SmallStarts : Type 0 where
  pub rule1_111_131 : StepsApart 1 3 (1 ∷ 1 ∷ 1 ∷ []) (1 ∷ 3 ∷ 1 ∷ []) 5
  pub rule2_000_201 : StepsApart 2 3 (0 ∷ 0 ∷ 0 ∷ []) (2 ∷ 0 ∷ 1 ∷ []) 6
  pub rule3_201_000 : StepsApart 3 3 (2 ∷ 0 ∷ 1 ∷ []) (0 ∷ 0 ∷ 0 ∷ []) 4
  pub rule2_001_000 : StepsApart 2 3 (0 ∷ 0 ∷ 1 ∷ []) (0 ∷ 0 ∷ 0 ∷ []) 12
  pub rule3_102_102 : StepsApart 3 3 (1 ∷ 0 ∷ 2 ∷ []) (1 ∷ 0 ∷ 2 ∷ []) 0
  pub rule1_lists : round_of 1 3 (1 ∷ 3 ∷ 1 ∷ []) ≡ moved 5 (round_of 1 3 (1 ∷ 1 ∷ 1 ∷ []))
  pub rule2_lists : round_of 2 3 (2 ∷ 0 ∷ 1 ∷ []) ≡ moved 6 (round_of 2 3 (0 ∷ 0 ∷ 0 ∷ []))
  pub rule3_lists : round_of 3 3 (0 ∷ 0 ∷ 0 ∷ []) ≡ moved 4 (round_of 3 3 (2 ∷ 0 ∷ 1 ∷ []))
  pub moved_2 : moved {A = ℕ} 2 (1 ∷ 2 ∷ 3 ∷ 4 ∷ 5 ∷ []) ≡ 3 ∷ 4 ∷ 5 ∷ 1 ∷ 2 ∷ []
