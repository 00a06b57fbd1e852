-- `all_pass`: a symbol of the part has its entry in the table. Assumes nothing.
use mathlib.Core.Path.{◌≡◌}
use Prim.Native.Nat.{◌≤◌}
use native.Mathlib.Omega.{arith}
use borrow.Author.Rules.{rules}
use lib.ListN.{length}
use Rattle.std.specs.List.{slice_range}
use Rattle.std.proofs.lemmas.Iterator.{YieldsList-from_slice}
use Rattle.std.proofs.lemmas.Iterator.Adapters.{serves_from_places}
use Rattle.successors.proofs.RankWindows.{part_low}
use Rattle.successors.proofs.rank_rule.RankWindow.all_pass.Goals as goal

pub all-requires-clause-callable : goal.all-requires-clause-callable
all-requires-clause-callable c =
    let a = c.args in
    let r = a.self in
    let l : length r.w ≡ 16 = search rules in
    let low = part_low r.w r.n a.a a.b r.low c.requires.1 (omega (arith, l, r.most)) in
    serves_from_places (YieldsList-from_slice (slice_range r.w a.a a.b) cc) (λ x q s. search rules)
    (λ x k lt e ls p y m f from t. let h : x.now ≤ 16 = rw e (low k x.now lt) in omega (arith, from.ensures, h))
