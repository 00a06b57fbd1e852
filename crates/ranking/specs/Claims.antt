-- What is proved of the numbers of weak orders and of their places, for every n (document 01, "Windows" and "Place").
use Rattle.std.specs.Prelude.{List, ◌≡◌, ℕ, ◌-◌, ◌≤◌, ◌<◌, ltb, length}
use Rattle.weak_orders.specs.Window.{different, bound}
use Rattle.rotations.specs.Order.{lex_lt}
use Rattle.ranking.specs.Counts.{L, a, ways_from}
use Rattle.ranking.specs.Dictionary.{completions, place, window_at}
use Rattle.ranking.specs.Numbering.{Numbering, Exactly, HeightWindow, RankWindow}

pub record CountsAndPlaces : Type 0 where
  -- the height windows that begin with p: the heights missing below the largest symbol of p, and any more, go into the places left
  pub completions-counted : (n : ℕ) (p : List ℕ) → length p ≤ n →
      completions n p ≡ ways_from (n - length p) (bound p - different p) (different p)
  -- L(n, k) weak orders of n have exactly k different symbols, in either form
  pub heights_with : (n k : ℕ) → Exactly (L n k) (λ w. HeightWindow n w × (different w ≡ k))
  pub ranks_with : (n k : ℕ) → Exactly (L n k) (λ w. RankWindow n w × (different w ≡ k))
  -- there are a(n) weak orders of n, in either form
  pub heights-all : (n : ℕ) → Exactly (a n) (HeightWindow n)
  pub ranks-all : (n : ℕ) → Exactly (a n) (RankWindow n)
  -- height windows have the places 0 to a(n) - 1; a window has one place, and a place one window
  pub places : (n : ℕ) → Numbering (HeightWindow n) (a n) place (window_at n)
  -- and stand in dictionary order
  pub in_order : (n i j : ℕ) → i < a n → j < a n → lex_lt (window_at n i) (window_at n j) ≡ ltb i j
