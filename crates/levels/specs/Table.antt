-- A level table: sixteen levels for d = 0 … 15 in place of even spacing (document 02, Paper 4), in hundredths of a dBm.
use Rattle.std.specs.Prelude.{Bool, true, ◌&&◌, List, [], ◌∷◌, ◌%◌, eqb, ℤ, pos, negsuc, nat_abs, length, replicate}
use Rattle.std.specs.Int.Signed.{le_z, lt_z}
use Rattle.weak_orders.specs.Window.{all}

-- a multiple of 25, on either side of zero: what the attenuator can set
abbrev pub is_multiple : ℤ → Bool
is_multiple z = eqb (nat_abs z % 25) 0

-- a level that a table may hold: a multiple of 25 in -12000 … 2000
unfoldable pub level_allowed : ℤ → Bool
level_allowed z = (le_z (negsuc 11999) z && le_z z (pos 2000)) && is_multiple z

-- the first is lower than x, and each lower than the one before
unfoldable pub falls_from : ℤ → List ℤ → Bool
falls_from x [] = true
falls_from x (y ∷ t) = lt_z y x && falls_from y t

-- each is lower than the one before
unfoldable pub falls : List ℤ → Bool
unfolding falls_from
falls [] = true
falls (x ∷ t) = falls_from x t

-- sixteen such levels, each lower than the one before. Any other table counts as none
unfoldable pub table_ok : List ℤ → Bool
unfolding all level_allowed falls
table_ok t = eqb (length t) 16 && (all level_allowed t && falls t)

-- one that counts as none, where there is no table: sixteen zeros
abbrev pub no_table : List ℤ
no_table = replicate 16 (pos 0)
