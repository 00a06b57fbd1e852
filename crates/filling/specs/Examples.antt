-- Patterns, their verdicts and their earliest fillings, computed by the definitions (document 02, Papers 1 and 8).
use Rattle.std.specs.Prelude.{cond, not, List, [], ◌∷◌, map, ◌≡◌, ℕ, suc, Ok, Err, eqb, replicate}
use Rattle.refusals.specs.declared.Cause.TheVariants.{WindowLength, NotWeakOrder, NoFilling}
use Rattle.weak_orders.specs.Window.{count}
use Rattle.ranking.specs.Dictionary.{strings}
use Rattle.filling.specs.Answers.{judged_pattern, fill_answer}
use Rattle.filling.specs.Earliest.{earliest, IsFirst}
use Rattle.filling.specs.Pattern.{fillable}

-- all patterns of n
unfoldable pub patterns : ℕ → List (List ℕ)
unfolding strings
patterns n = map (map (λ v. cond (eqb v n) 255 v)) (strings n (suc n))

-- "third sweep on top, fifth level with it", of five
abbrev pub service : List ℕ
service = 255 ∷ 255 ∷ 0 ∷ 255 ∷ 0 ∷ []

pub record Examples : Type 0 where
  pub service-accepted : judged_pattern 5 service ≡ Ok tt
  -- the laws at work: nothing in them is vacuous
  pub service_first : IsFirst 5 service (earliest 5 service)
  -- nothing is missing: the open places get 0
  pub service_filled : earliest 5 service ≡ 0 ∷ 0 ∷ 0 ∷ 0 ∷ 0 ∷ []
  -- 0 while there is room for the missing heights behind, and then those from the least on
  pub zeros_first : earliest 4 (255 ∷ 255 ∷ 255 ∷ 2 ∷ []) ≡ 0 ∷ 0 ∷ 1 ∷ 2 ∷ []
  pub between : earliest 5 (255 ∷ 0 ∷ 255 ∷ 3 ∷ 255 ∷ []) ≡ 0 ∷ 0 ∷ 1 ∷ 3 ∷ 2 ∷ []
  -- 0 is missing, and there is a place to spare
  pub to_spare : earliest 3 (255 ∷ 255 ∷ 1 ∷ []) ≡ 0 ∷ 0 ∷ 1 ∷ []
  pub alone : earliest 1 (255 ∷ []) ≡ 0 ∷ []
  pub all_open : judged_pattern 3 (255 ∷ 255 ∷ 255 ∷ []) ≡ Ok tt
  -- 0 itself may be missing
  pub zero_missing : judged_pattern 3 (1 ∷ 255 ∷ 1 ∷ []) ≡ Ok tt
  pub two_missing : judged_pattern 3 (2 ∷ 255 ∷ 2 ∷ []) ≡ Err NoFilling
  -- without open places: a weak order, and none
  pub whole : fill_answer 3 (2 ∷ 0 ∷ 1 ∷ []) ≡ Ok (2 ∷ 0 ∷ 1 ∷ replicate 13 0)
  pub gap : judged_pattern 3 (0 ∷ 0 ∷ 2 ∷ []) ≡ Err NoFilling
  -- a byte that is neither 255 nor below n, and a pattern that is not n long
  pub byte_n : judged_pattern 3 (3 ∷ 255 ∷ 255 ∷ []) ≡ Err NotWeakOrder
  pub byte_254 : judged_pattern 3 (254 ∷ 255 ∷ 255 ∷ []) ≡ Err NotWeakOrder
  pub shorter : judged_pattern 3 (255 ∷ 255 ∷ []) ≡ Err NotWeakOrder
  pub longer : judged_pattern 3 (255 ∷ 255 ∷ 255 ∷ 255 ∷ []) ≡ Err NotWeakOrder
  pub none_of_0 : judged_pattern 0 [] ≡ Err WindowLength
  pub none_of_17 : judged_pattern 17 (replicate 17 255) ≡ Err WindowLength
  -- how many of the patterns of 1 to 4 no weak order agrees with
  pub unfillable : map (λ n. count (λ p. not (fillable n p)) (patterns n)) (1 ∷ 2 ∷ 3 ∷ 4 ∷ []) ≡ (0 ∷ 1 ∷ 17 ∷ 267 ∷ [])
