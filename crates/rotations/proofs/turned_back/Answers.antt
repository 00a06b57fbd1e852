-- `turned_back`: the newest symbol, the others, and zeros. Assumes nothing.
use mathlib.Core.List.{List, ◌∷◌, ◌++◌}
use mathlib.Core.Path.{◌≡◌, ap, ap₂, sym, ◌∙◌}
use Prim.Native.Nat.{ℕ, ◌-◌}
use native.Mathlib.Omega.{arith}
use borrow.Author.Rules.{rules}
use lib.ListN.{length, length-take, take, drop, replicate, get_or}
use lib.Seq.{length-take-le, get_or-take}
use Rattle.std.proofs.lemmas.List.{drop-replicate}
use Rattle.std.proofs.lemmas.List.{take-take}
use Rattle.weak_orders.specs.Window.{padded}
use Rattle.weak_orders.proofs.Parts.{capped_window}
use Rattle.rotations.specs.Rotation.{turned_back}
use Rattle.rotations.proofs.Rotations.{newest_front}
use Rattle.rotations.proofs.turned_back.Goals.{After-capped-end}
use Rattle.rotations.proofs.turned_back.Goals as goal

-- what is looked at is all that was handed in
whole : (c : After-capped-end) → let u = take c.capped-end.result c.args.w in (length u ≡ c.capped-end.result) × (u ≡ take c.args.n c.args.w)
whole c = capped_window c.args.w c.args.n 16 _ (search rules) c.capped-end.ensures

pub returns-then-end-gt0 : goal.returns-then-end-gt0
unfolding padded
returns-then-end-gt0 c =
    let w = c.args.w in
    let end = c.capped-end.result in
    let m = end - 1 in
    let (len, same) = whole (goal.at.returns-then-end-gt0 c).After-capped-end in
    let x = get_or w m 0 in
    let p = take m w in
    let size : length p ≡ m = length-take-le m w (omega (arith, length-take end w)) in
    let zeros : 15 - m ≡ 16 - length (x ∷ p) = omega arith in
    let copied : c.copy_from_slice.new.self ≡ p = c.copy_from_slice.ensures.after in
    let behind : drop m (replicate 15 0) ≡ replicate (16 - length (x ∷ p)) 0 = drop-replicate m 15 0 ∙ ap (λ (k : ℕ). replicate k 0) zeros in
    let turned : turned_back (take end w) ≡ x ∷ p =
    newest_front (take end w) (omega arith) ∙ rw (len, get_or-take end w m 0 (omega arith), take-take m end w (omega arith)) in
    ap₂ (λ (a b : List ℕ). x ∷ (a ++ b)) copied behind ∙ ap padded (sym turned ∙ ap turned_back same)

pub returns-else-end-gt0 : goal.returns-else-end-gt0
unfolding padded turned_back
returns-else-end-gt0 c = let z : c.capped-end.result ≡ 0 = omega arith in
    ap (λ u. padded (turned_back u)) (ap (λ (k : ℕ). take k c.args.w) (sym z) ∙ (whole (goal.at.returns-else-end-gt0 c).After-capped-end).1)
