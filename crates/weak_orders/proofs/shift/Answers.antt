use mathlib.Core.Path.{◌≡◌, ap, sym, ◌∙◌}
use Prim.Native.Nat.{ℕ, ◌+◌, ◌-◌}
use native.Mathlib.Omega.{arith}
use borrow.Author.Rules.{rules}
use lib.ListN.{length, take, drop, set, replicate}
use Rattle.std.proofs.lemmas.List.{drop-take}
use lib.Seq.{length-take-le}
use mathlib.Core.List.{List, ◌++◌}
use Rattle.weak_orders.specs.Window.{shifted}
use Rattle.weak_orders.proofs.FormTests.{sized}
use Rattle.weak_orders.proofs.Padded.{padded_over, padded_snoc}
use Rattle.weak_orders.proofs.Parts.{part_length}
use Rattle.weak_orders.proofs.shift.Goals as goal

pub slice_bounds-copy_from_slice-length : goal.slice_bounds-copy_from_slice-length
slice_bounds-copy_from_slice-length c =
    let h = sized c.args.n c.if-not-is_length.ensures in
    sym (length-take-le (c.args.n - 1) (replicate 16 0) (omega (arith, h)))

pub returns : goal.returns
unfolding shifted
returns c =
    let a = c.args in
    let h = sized a.n c.if-not-is_length.ensures in
    let l : length a.w ≡ 16 = search rules in
    let p = drop 1 (take a.n a.w) in
    let size : length p ≡ a.n - 1 = part_length a.w 1 a.n (omega arith) in
    let all : 1 + (a.n - 1) ≡ a.n = omega arith in
    let same : c.copy_from_slice.new.self ≡ p = c.copy_from_slice.ensures.after ∙ sym (drop-take 1 (a.n - 1) a.w) ∙ ap (λ (m : ℕ). drop 1 (take m a.w)) all in
    rw (sym c.is_length.ensures ∙ c.if-not-is_length.false)
    (ap (λ (v : List ℕ). set (v ++ drop (a.n - 1) (replicate 16 0)) (a.n - 1) a.s) same
    ∙ ap (λ (v : List ℕ). set v (a.n - 1) a.s) (padded_over p (a.n - 1) size)
    ∙ padded_snoc p (a.n - 1) a.s size (omega arith))
