-- The levels of a window under a setting that passes test 9 (document 01, "Level" and "Turned down"; document 02, Papers 2 and 4).
use Rattle.std.specs.Prelude.{true, ◌↔◌, ◌≡◌, ℕ, ◌<◌, pos, negsuc, get_or}
use mathlib.Core.List.{List, Memᴰ}
use Rattle.std.specs.Int.Signed.{le_z, lt_z}
use Rattle.weak_orders.specs.Window.{is_length}
use Rattle.successors.specs.Rules.{WeakOrder}
use Rattle.levels.specs.declared.Setting.{Setting}
use Rattle.levels.specs.Level.{spacings, on_table, level_of, setting_ok}
use Rattle.levels.specs.Table.{is_multiple}

pub record Levels (rule : ℕ) (s : Setting) (w : List ℕ) : Type 0 where
  -- each lies in -12000 … 2000, and the attenuator can set it
  pub low : (v : ℕ) → Memᴰ v w → le_z (negsuc 11999) (level_of rule s v) ≡ true
  pub high : (v : ℕ) → Memᴰ v w → le_z (level_of rule s v) (pos 2000) ≡ true
  pub multiple : (v : ℕ) → Memᴰ v w → is_multiple (level_of rule s v) ≡ true
  -- on a table it is the entry for d
  pub entry : (v : ℕ) → Memᴰ v w → on_table s ≡ true → level_of rule s v ≡ get_or s.table (spacings rule v) (pos 0)
  -- the smaller symbol has the higher level, and two places have equal levels just if their symbols are equal
  pub falling : (u v : ℕ) → Memᴰ u w → Memᴰ v w → u < v → lt_z (level_of rule s v) (level_of rule s u) ≡ true
  pub same : (u v : ℕ) → Memᴰ u w → Memᴰ v w → (level_of rule s u ≡ level_of rule s v) ↔ (u ≡ v)

-- n is tested first: from 17 on a table has no entry for every symbol
abbrev pub LevelsOk : Type 0
LevelsOk = (n rule : ℕ) (s : Setting) (w : List ℕ) → is_length n ≡ true → setting_ok n s ≡ true → WeakOrder n rule w → Levels rule s w
