use mathlib.Core.List.{List}
use Prim.Native.Nat.{ℕ, min}
use native.Mathlib.Decide.{dec_le}
use mathlib.Core.Path.{◌≡◌, sym, ap, ◌∙◌}
use native.Mathlib.Omega.{arith}
use lib.ListN.{length, take}
use lib.Seq.{length-take-le, take_all}
use borrow.Author.Tests.{eq-eqb, ne_eqb}
use Rattle.weak_orders.specs.Window.{padded, loaded}
use Rattle.weak_orders.proofs.Padded.{padded_over}
use Rattle.weak_orders.proofs.load.Goals as goal

pub returns-then-s-n : goal.returns-then-s-n
unfolding loaded
returns-then-s-n c = rw (ne_eqb (length c.args.s.now) c.args.n c.if-s-n.true)

taken : (s : List ℕ) (k : ℕ) → k ≡ min (length s) 16 → take k s ≡ take 16 s
taken s k e = elim (dec_le (length s) 16) [
  | yes le ↦ take_all k s (omega arith) ∙ sym (take_all 16 s le)
  | no gt ↦ let q : k ≡ 16 = omega arith in rw q
]

pub returns : goal.returns
unfolding loaded
returns c =
    let s = c.args.s.now in
    let l = c.capped-end.ensures in
    let size : length c.copy_from_slice.new.self ≡ c.capped-end.result = c.copy_from_slice.ensures.len ∙ length-take-le _ _ (omega arith) in
    let same : c.copy_from_slice.new.self ≡ take 16 s = c.copy_from_slice.ensures.after ∙ taken s c.capped-end.result (omega arith) in
    rw (eq-eqb (length s) c.args.n (omega arith)) (padded_over c.copy_from_slice.new.self c.capped-end.result size ∙ ap padded same)
