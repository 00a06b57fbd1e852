-- What rounding is (document 02, Paper 2): the nearest multiple of 25, and never a halfway case. Proved in proofs/NearestMultiple.
use Rattle.std.specs.Prelude.{true, ◌≢◌, ◌≡◌, ◌≤◌, ◌<◌, ℤ, nat_abs, ◌-ℤ◌}
use Rattle.levels.specs.Table.{is_multiple}
use Rattle.levels.specs.Level.{rounded}

-- m is a multiple of 25 at most 12 away from z, and strictly nearer to z than any other
pub record Nearest (z m : ℤ) : Type 0 where
  pub multiple : is_multiple m ≡ true
  pub near : nat_abs (z -ℤ m) ≤ 12
  pub nearer : (m' : ℤ) → is_multiple m' ≡ true → m' ≢ m → nat_abs (z -ℤ m) < nat_abs (z -ℤ m')

abbrev pub Rounding : Type 0
Rounding = (z : ℤ) → Nearest z (rounded z)
