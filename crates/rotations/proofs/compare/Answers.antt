use mathlib.Core.List.{List}
use mathlib.Core.Path.{◌≡◌}
use Prim.Native.Nat.{ℕ}
use native.Mathlib.Omega.{arith}
use borrow.Author.Rules.{rules}
use lib.ListN.{length, take, get_or}
use Rattle.rotations.specs.Rotation.{rotation}
use Rattle.rotations.proofs.Compared.{rotation-length, Front, front_less, front_greater, front_equal, compared_end}
use Rattle.rotations.proofs.compare.Goals.{After-cyclic-in-loop-k, Start}
use Rattle.rotations.proofs.compare.Goals as goal

-- the two rotations
abbrev from-i : Start → List ℕ
from-i s = rotation (take s.args.n s.args.w) s.args.i

abbrev from-j : Start → List ℕ
from-j s = rotation (take s.args.n s.args.w) s.args.j

long-i : (s : Start) → length (from-i s) ≡ s.args.n
long-i s =
    let l : length s.args.w ≡ 16 = search rules in
    rotation-length s.args.w s.args.n s.args.i (search rules) (search rules)

long-j : (s : Start) → length (from-j s) ≡ s.args.n
long-j s =
    let l : length s.args.w ≡ 16 = search rules in
    rotation-length s.args.w s.args.n s.args.j (search rules) (search rules)

front : (c : After-cyclic-in-loop-k) →
    let p = c.before.before.before in
    let w = p.args.w in
    Front (from-i p.before) (from-j p.before) p.loop-k.k (get_or w c.cyclic.result 0) (get_or w c.cyclic-in-loop-k.result 0)
front c =
    let p = c.before.before.before in
    let a = p.args in
    let l : length a.w ≡ 16 = search rules in
    record {
      left = p.loop-k.invariant;
      in_a = omega (arith, long-i p.before);
      in_b = omega (arith, long-j p.before);
      of_a = c.cyclic.ensures.1 a.w (omega arith);
      of_b = c.cyclic-in-loop-k.ensures.1 a.w (omega arith);
    }

pub returns-then-x-y : goal.returns-then-x-y
returns-then-x-y c = front_less _ _ _ _ _ (front (goal.at.returns-then-x-y c).After-cyclic-in-loop-k) c.if-x-y.true

pub returns-then-y-x : goal.returns-then-y-x
returns-then-y-x c = front_greater _ _ _ _ _ (front (goal.at.returns-then-y-x c).After-cyclic-in-loop-k) c.if-y-x.true

pub loop-k-preserved : goal.loop-k-preserved
loop-k-preserved c = front_equal _ _ _ _ _ (front (goal.at.loop-k-preserved c).After-cyclic-in-loop-k) (omega arith)

pub returns : goal.returns
returns c = let s = (goal.at.returns c).Start in
    compared_end (from-i s) (from-j s) c.loop-k.k (omega (arith, long-i s)) (omega (arith, long-j s)) c.loop-k.invariant
