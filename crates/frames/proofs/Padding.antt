-- A window in sixteen bytes, the unused ones zero. Assumes nothing.
use mathlib.Core.Bool.{true}
use mathlib.Core.List.{List, ◌++◌}
use mathlib.Core.Path.{◌≡◌, refl, sym, ap, ◌∙◌}
use Prim.Native.Nat.{ℕ, zero, suc, ◌-◌, ◌≤◌}
use native.Mathlib.Omega.{arith}
use lib.ListN.{length, take, drop, replicate, length-drop, take-append-drop}
use lib.Seq.{length-take-le}
use Rattle.weak_orders.specs.Window.{all, padded}
use Rattle.weak_orders.proofs.Tests.{says_all}
use Rattle.weak_orders.proofs.Lists.{says_same, all_same}
use Rattle.weak_orders.proofs.Padded.{drop-padded}
use Rattle.frames.specs.Fields.{zeros}

zeros-replicate : (m : ℕ) → zeros (replicate m 0) ≡ true
unfolding zeros all
zeros-replicate zero = refl
zeros-replicate (suc m) = zeros-replicate m

pub zeros_are : (w : List ℕ) → zeros w ≡ true → w ≡ replicate (length w) 0
unfolding zeros
zeros_are w z = all_same 0 w ((says_all (says_same 0) w).to z)

pub unused_padded : (w : List ℕ) (n : ℕ) → length w ≡ n → zeros (drop n (padded w)) ≡ true
unused_padded w n e = ap zeros (drop-padded w n e) ∙ zeros-replicate (16 - n)

-- sixteen bytes whose unused ones are zero are those of their first n
pub padded-take : (w : List ℕ) (n : ℕ) → length w ≡ 16 → n ≤ 16 → zeros (drop n w) ≡ true → padded (take n w) ≡ w
unfolding padded
padded-take w n l h z =
    let e : length (drop n w) ≡ 16 - length (take n w) = omega (arith, length-drop n w, length-take-le n w (omega arith)) in
    let z' : drop n w ≡ replicate (16 - length (take n w)) 0 = zeros_are (drop n w) z ∙ ap (λ k. replicate k 0) e in
    ap (λ v. take n w ++ v) (sym z') ∙ take-append-drop n w
