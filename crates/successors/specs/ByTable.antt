-- What rule 1 reads off a table of counts: entry v of the table says how often v occurs, document 01's num(v).
use Rattle.std.specs.Prelude.{Bool, false, cond, not, ◌&&◌, ◌||◌, ◌≡◌, ℕ, zero, suc, ◌<◌, ◌≤◌, eqb, get_or, take, drop}
use mathlib.Core.List.{List, Memᴰ}
use Rattle.weak_orders.specs.Window.{all}
use Rattle.successors.specs.Rules.{before}

-- `single`, read off the table: v is 1, or the table has a 1 for it
unfoldable pub single_by : List ℕ → ℕ → Bool
single_by t v = eqb v 1 || eqb (get_or t v 0) 1

-- what the scan asks of a symbol: it differs from p, which is 0 where no symbol is excluded, and is single
unfoldable pub passes_by : List ℕ → ℕ → ℕ → Bool
unfolding single_by
passes_by t p v = not (eqb v p) && single_by t v

-- the scan of cases 3 and 4, read off the table: each w_i with 2 ≤ i < j passes, where j is a start index
unfoldable pub scan_by : ℕ → List ℕ → List ℕ → ℕ → Bool
unfolding all passes_by before
scan_by j t w p = all (passes_by t p) (before j w)

-- `largest_below`, read off the table: the largest number below v that it has, and 0 where there is none
unfoldable pub largest_by : List ℕ → ℕ → ℕ
largest_by t zero = 0
largest_by t (suc v) = cond (eqb (get_or t v 0) 0) (largest_by t v) v

-- whichever index of w, behind the first and below n, holds a 1: not all symbols between pass the test
abbrev pub RepeatBeforeOne : (ℕ → Bool) → ℕ → List ℕ → Type 0
RepeatBeforeOne f n w = (k : ℕ) → 0 < k → k < n → get_or w k 0 ≡ 1 → all f (drop 1 (take k w)) ≡ false

-- no symbol of l is larger than 16, so that a table of counts has an entry for each
abbrev pub Low : List ℕ → Type 0
Low l = (v : ℕ) → Memᴰ v l → v ≤ 16
