-- What is proved of windows, of every length: their two forms, and their symbols as bits (document 01, "Windows").
use Rattle.std.specs.Prelude.{true, List, ◌≡◌, ℕ, ◌%◌, ◌^◌, ◌≤◌, length, take}
use Rattle.std.specs.Int.Count.{ones}
use Rattle.weak_orders.specs.Converted.{is_rank_window}
use Rattle.weak_orders.specs.Tables.{tally, GivesNum, is_rank_table, bits_of}
use Rattle.weak_orders.specs.Window.{height, different, bound, is_rank, is_height, heights, ranks}

-- the conversions: ranks of any window are in rank form, heights in height form, and on windows in form each undoes the other
pub record Conversions : Type 0 where
  pub ranks_form : (w : List ℕ) → is_rank (ranks w) ≡ true
  pub heights_form : (w : List ℕ) → is_height (heights w) ≡ true
  pub ranks_long : (w : List ℕ) → length (ranks w) ≡ length w
  pub heights_long : (w : List ℕ) → length (heights w) ≡ length w
  pub ranks-heights : (w : List ℕ) → is_rank w ≡ true → ranks (heights w) ≡ w
  pub heights-ranks : (w : List ℕ) → is_height w ≡ true → heights (ranks w) ≡ w

-- tables of counts: each gives num(v), and that of the first n symbols of an array tells whether they are a weak order of n in rank form
pub record TablesOfCounts : Type 0 where
  pub gives_num : (l : List ℕ) → GivesNum l (tally l)
  pub rank_form : (w : List ℕ) (n : ℕ) → length w ≡ 16 → is_rank_table n (tally (take n w)) ≡ is_rank_window n w

-- symbols as bits: the ones below bit k are the different symbols below k, and all symbols are among them where each is below 31
pub record SymbolsAsBits : Type 0 where
  pub ones_below : (w : List ℕ) (k : ℕ) → k ≤ 31 → ones (bits_of w % 2 ^ k) ≡ height w k
  pub ones-all : (w : List ℕ) → bound w ≤ 31 → height w 31 ≡ different w
