-- Levels and settings, computed by the definitions (document 02, Papers 2 and 4).
use Rattle.std.specs.Prelude.{true, false, List, [], ◌∷◌, ◌++◌, map, ◌≡◌, ◌*◌, ℤ, pos, negsuc, ◌-ℤ◌, take, set, replicate}
use Rattle.weak_orders.specs.Window.{range}
use Rattle.levels.specs.declared.Setting.{Setting}
use Rattle.levels.specs.Table.{table_ok}
use Rattle.levels.specs.Level.{setting_of, lowered, rounded, level_of, setting_ok}
use Rattle.levels.specs.Levels.{Levels}

-- 2000, 1500, … -5500, and a setting on it
abbrev pub stairs : List ℤ
stairs = map (λ d. pos 2000 -ℤ pos (500 * d)) (range 16)

abbrev pub on_stairs : Setting
on_stairs = record { top = pos 0; spacing = 0; table = stairs }

pub record Examples : Type 0 where
  -- -13, -12, 12, 13, 37, 38, 1988
  pub rounds : map rounded (negsuc 12 ∷ negsuc 11 ∷ pos 12 ∷ pos 13 ∷ pos 37 ∷ pos 38 ∷ pos 1988 ∷ [])
      ≡ negsuc 24 ∷ pos 0 ∷ pos 0 ∷ pos 25 ∷ pos 25 ∷ pos 50 ∷ pos 2000 ∷ []
  -- from -1000 in steps of 26: -1026, -1052 and -1078 round to -1025, -1050 and -1075
  pub heights : map (level_of 2 (setting_of (negsuc 999) 26)) (0 ∷ 1 ∷ 2 ∷ 3 ∷ [])
      ≡ negsuc 999 ∷ negsuc 1024 ∷ negsuc 1049 ∷ negsuc 1074 ∷ []
  pub ranks : map (level_of 1 (setting_of (negsuc 999) 26)) (1 ∷ 2 ∷ 3 ∷ 4 ∷ [])
      ≡ negsuc 999 ∷ negsuc 1024 ∷ negsuc 1049 ∷ negsuc 1074 ∷ []
  -- with a spacing of 10 two ranks would come out equal; so they would with one of 24, where 12 and -12 both round to 0
  pub tied_10 : level_of 1 (setting_of (negsuc 999) 10) 1 ≡ level_of 1 (setting_of (negsuc 999) 10) 2
  pub tied_24 : level_of 1 (setting_of (pos 12) 24) 1 ≡ level_of 1 (setting_of (pos 12) 24) 2
  -- so 24 is refused, of one symbol too, and 25 is accepted
  pub narrow : map (λ n. setting_ok n (setting_of (negsuc 999) 24)) (1 ∷ 2 ∷ 16 ∷ []) ≡ false ∷ false ∷ false ∷ []
  pub wide : map (λ n. setting_ok n (setting_of (negsuc 999) 25)) (1 ∷ 2 ∷ 16 ∷ []) ≡ true ∷ true ∷ true ∷ []
  -- six symbols from -10000: down to -12000, and to -12005, which is refused though it would round to -12000
  pub lowest : setting_ok 6 (setting_of (negsuc 9999) 400) ≡ true
  pub below : setting_ok 6 (setting_of (negsuc 9999) 401) ≡ false
  pub below-rounded : rounded (lowered (setting_of (negsuc 9999) 401) 5) ≡ negsuc 11999
  -- what holds of a window's levels, at work: nothing in it is vacuous
  pub window : Levels 1 (setting_of (negsuc 999) 26) (1 ∷ 3 ∷ 1 ∷ [])
  -- on a table the entries for d, and 0 past the end
  pub table-heights : map (level_of 2 on_stairs) (0 ∷ 1 ∷ 15 ∷ 16 ∷ []) ≡ pos 2000 ∷ pos 1500 ∷ negsuc 5499 ∷ pos 0 ∷ []
  pub table-ranks : map (level_of 1 on_stairs) (1 ∷ 2 ∷ 16 ∷ 17 ∷ []) ≡ pos 2000 ∷ pos 1500 ∷ negsuc 5499 ∷ pos 0 ∷ []
  -- a table that is accepted; and refused where there is none, or the top is 25
  pub on_table : setting_ok 16 on_stairs ≡ true
  pub no_table : setting_ok 1 (setting_of (pos 0) 0) ≡ false
  pub other_top : setting_ok 1 (record { top = pos 25; spacing = 0; table = stairs }) ≡ false
  -- tables that count as none: equal neighbours, 2025, 1505, -12025, one entry less, one more
  pub none : map table_ok
      (set stairs 1 (pos 2000) ∷ set stairs 0 (pos 2025) ∷ set stairs 1 (pos 1505) ∷ set stairs 15 (negsuc 12024) ∷ take 15 stairs
      ∷ (stairs ++ (negsuc 5999 ∷ [])) ∷ [])
      ≡ replicate 6 false
  pub lowest_entry : table_ok (set stairs 15 (negsuc 11999)) ≡ true
  -- and a window's levels on it
  pub table_window : Levels 1 on_stairs (1 ∷ 3 ∷ 1 ∷ [])
