-- `different`: the ones of the symbols' bits below 31. Assumes nothing.
use mathlib.Core.Path.{ap, ◌∙◌}
use native.Mathlib.Omega.{arith}
use Prim.Native.Nat.{◌%◌, ◌^◌}
use lib.Count.{ones}
use lib.ListN.{take}
use Rattle.weak_orders.proofs.Bits.{ones-height}
use Rattle.weak_orders.proofs.different.Goals as goal

pub returns : goal.returns
returns c = ap (λ b. ones (b % 2 ^ 31)) c.present.ensures ∙ ones-height (take c.args.n c.args.w) 31 (omega arith)
