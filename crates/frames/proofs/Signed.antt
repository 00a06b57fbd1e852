-- Signed numbers: two's complement of 16 and 32 bits. Assumes nothing.
use mathlib.Core.Path.{◌≡◌, ap}
use Prim.Native.Nat.{ℕ, ◌-◌, ◌<◌}
use native.Mathlib.Omega.{arith}
use lib.Dec.{ltb}
use lib.IntN.{ℤ, pos, negsuc}
use borrow.Author.Tests.{le-ltb, lt-ltb}
use mir.Syntax.{w16}
use mir.Val.{SFits}
use Rattle.weak_orders.proofs.Tests.{by_test}
use Rattle.frames.specs.Fields.{signed16, bits16}

-- sixteen bits as a signed number, and back
pub signed_bits : (z : ℤ) → SFits w16 z → signed16 (bits16 z) ≡ z
signed_bits (pos n) h = rw (lt-ltb n 32768 (omega (arith, h.sfits)))
signed_bits (negsuc n) h =
    let l : n < 32768 = omega (arith, h.sfits) in
    let e : 65535 - (65535 - n) ≡ n = omega arith in
    rw (le-ltb (65535 - n) 32768 (omega arith)) (ap negsuc e)

pub bits_signed : (x : ℕ) → x < 65536 → bits16 (signed16 x) ≡ x
bits_signed x h = by_test (ltb x 32768)
    (λ e. rw e)
    (λ e. rw e (omega arith))
