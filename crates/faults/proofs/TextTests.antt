-- The tests of a text, as the functions make them. Assumes nothing.
use mathlib.Core.Bool.{◌&&◌}
use mathlib.Core.List.{List, [], ◌∷◌}
use mathlib.Core.Path.{◌≡◌, refl, sym}
use Prim.Native.Nat.{ℕ, ◌-◌}
use denote.Ref.{Bor}
use lib.Dec.{leb, eqb}
use lib.ListN.{length, get_or}
use Rattle.std.specs.Prelude.{Option, Some, None}
use Rattle.std.specs.List.{list_any, slice_get}
use Rattle.std.specs.Option.{option_copied, option_eq}
use Rattle.std.proofs.lemmas.Option.{unwrap_or-slice_get}
use Rattle.weak_orders.proofs.Tests.{by_test}
use Rattle.faults.specs.Faults.{has_byte, ends_line}

pub any_byte : (low high : ℕ) (s : List ℕ) → list_any (λ b. leb low b && leb b high) s ≡ has_byte low high s
unfolding has_byte
any_byte low high [] = refl
any_byte low high (b ∷ s) = by_test (leb low b && leb b high) (λ e. rw e) (λ e. rw e (any_byte low high s))

-- the last byte, which an empty text has not
pub last_looked : (s : List ℕ) (o : Option (Bor ℕ)) (t : Bor ℕ) → option_copied o ≡ slice_get s (length s - 1) → t.now ≡ 10 →
    option_eq (λ (x y : Bor ℕ). eqb x.now y.now) o (Some t) ≡ ends_line s
unfolding ends_line
last_looked s None t h e = let last = unwrap_or-slice_get s (length s - 1) 0 in let q : get_or s (length s - 1) 0 ≡ 0 = sym (rw (← h) at last) in rw q
last_looked s (Some x) t h e = let last = unwrap_or-slice_get s (length s - 1) 0 in let q : get_or s (length s - 1) 0 ≡ x.now = sym (rw (← h) at last) in rw (q, e)
