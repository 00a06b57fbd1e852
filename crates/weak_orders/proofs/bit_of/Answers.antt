-- `bit_of`: a shift of 1 is the power of two. Assumes nothing.
use mathlib.Core.Path.{◌∙◌}
use Prim.Native.Nat.{◌^◌}
use native.Mathlib.Nat.{one-mul}
use native.Mathlib.Omega.{arith}
use lib.Dec.{lit<}
use lib.Pow.{shl_exact}
use Rattle.weak_orders.specs.Tables.{bit_of}
use Rattle.weak_orders.proofs.bit_of.Goals as goal

pub returns : goal.returns
unfolding bit_of
returns c = rw (← c.min.ensures) (shl_exact {a = 1} 1 c.min.result 32 (lit< tt) (omega arith) ∙ one-mul (2 ^ c.min.result))
