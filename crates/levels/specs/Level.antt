-- Levels and the level setting (document 01, "Level" and refusal 9; document 02, Papers 2 and 4), in hundredths of a dBm. A setting is a top,
-- a spacing and a table; the table counts where top and spacing are both 0.
use Rattle.std.specs.Prelude.{Bool, cond, ◌&&◌, List, ℕ, suc, ◌+◌, ◌-◌, ◌*◌, ◌/◌, leb, eqb, ℤ, pos, negsuc, neg_ℤ, nat_abs, ◌-ℤ◌, get_or}
use Rattle.std.specs.Int.Signed.{le_z}
use Rattle.levels.specs.declared.Setting.{Setting}
use Rattle.levels.specs.Table.{table_ok, no_table}

-- a setting without a table
abbrev pub setting_of : ℤ → ℕ → Setting
setting_of top spacing = record { top = top; spacing = spacing; table = no_table }

-- document 01's d: symbol - 1 in rank form (rule 1), the symbol itself in height form (rules 2 and 3)
unfoldable pub spacings : ℕ → ℕ → ℕ
spacings rule symbol = cond (eqb rule 1) (symbol - 1) symbol

-- d spacings below the top, not rounded
unfoldable pub lowered : Setting → ℕ → ℤ
lowered s d = s.top -ℤ pos (d * s.spacing)

-- the multiple of 25 nearest to a number: up to 12 above a multiple it is that one, from 13 on the next
unfoldable pub nearest : ℕ → ℕ
nearest x = (x + 12) / 25 * 25

-- the same on both sides of zero
unfoldable pub rounded : ℤ → ℤ
unfolding nearest
rounded (pos x) = pos (nearest x)
rounded (negsuc x) = neg_ℤ (pos (nearest (suc x)))

-- the table's entry for d, and 0 past its end
abbrev pub entry : List ℤ → ℕ → ℤ
entry t d = get_or t d (pos 0)

-- top 0 and spacing 0: the levels are the table's
unfoldable pub on_table : Setting → Bool
on_table s = eqb (nat_abs s.top) 0 && eqb s.spacing 0

-- the level for d: the table's entry, or the multiple of 25 nearest to top - d × spacing
unfoldable pub level_at : Setting → ℕ → ℤ
unfolding lowered rounded on_table
level_at s d = cond (on_table s) (entry s.table d) (rounded (lowered s d))

-- the level of a symbol
unfoldable pub level_of : ℕ → Setting → ℕ → ℤ
unfolding spacings level_at
level_of rule s symbol = level_at s (spacings rule symbol)

-- test 9 of even spacing asks: top in -10000 … 2000, spacing in 25 … 500, and top - (n - 1) × spacing, not rounded, not below -12000
abbrev pub top_ok : ℤ → Bool
top_ok top = le_z (negsuc 9999) top && le_z top (pos 2000)

abbrev pub spacing_ok : ℕ → Bool
spacing_ok spacing = leb 25 spacing && leb spacing 500

abbrev pub lowest_ok : ℕ → Setting → Bool
lowest_ok n s = le_z (negsuc 11999) (lowered s (n - 1))

unfoldable pub even_ok : ℕ → Setting → Bool
unfolding lowered
even_ok n s = top_ok s.top && (spacing_ok s.spacing && lowest_ok n s)

-- test 9. Spacing 0 with another top fails as even spacing
unfoldable pub setting_ok : ℕ → Setting → Bool
unfolding on_table table_ok even_ok
setting_ok n s = cond (on_table s) (table_ok s.table) (even_ok n s)
