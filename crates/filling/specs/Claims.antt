-- What is proved of patterns and their fillings (document 02, Papers 1 and 8). Heights of windows of up to 16 symbols are below 16, so that
-- none of them is the open byte.
use Rattle.std.specs.Prelude.{true, false, List, ◌≡◌, ℕ, ◌≤◌, leb}
use Rattle.ranking.specs.Dictionary.{place}
use Rattle.ranking.specs.Numbering.{HeightWindow}
use Rattle.filling.specs.Earliest.{earliest, IsFirst}
use Rattle.filling.specs.Pattern.{is_pattern, Filling, fillable, open_places, missing}

pub record EarliestLaws : Type 0 where
  -- 15 is given just where no weak order agrees
  pub none : (n : ℕ) (p : List ℕ) → fillable n p ≡ false → (w : List ℕ) → ¬ Filling n p w
  pub some : (n : ℕ) (p w : List ℕ) → Filling n p w → fillable n p ≡ true
  -- and that is where more heights are missing than places are open
  pub just_if : (n : ℕ) (p : List ℕ) → n ≤ 16 → is_pattern n p ≡ true → fillable n p ≡ leb (missing p) (open_places p)
  -- otherwise the answer is the first that agrees, and nothing else is
  pub first : (n : ℕ) (p : List ℕ) → fillable n p ≡ true → IsFirst n p (earliest n p)
  pub only : (n : ℕ) (p w : List ℕ) → IsFirst n p w → w ≡ earliest n p
  -- which is the one with the least place
  pub least_place : (n : ℕ) (p w : List ℕ) → Filling n p w → place (earliest n p) ≤ place w
  -- a weak order without an open place is its own answer
  pub itself : (n : ℕ) (p : List ℕ) → open_places p ≡ 0 → HeightWindow n p → earliest n p ≡ p
