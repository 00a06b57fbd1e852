-- `same` meets its contract: slices of one length are the same just if each pair of bytes is. Assumes nothing.
use mathlib.Core.Bool.{◌&&◌}
use mathlib.Core.List.{List, [], ◌∷◌}
use mathlib.Core.Path.{◌≡◌, refl, sym, ap, ◌∙◌}
use Prim.Native.Nat.{ℕ}
use native.Mathlib.Omega.{arith}
use lib.Dec.{eqb}
use lib.ListN.{length}
use borrow.Author.Rules.{rules}
use borrow.Author.Tests.{tests, ne_eqb}
use Rattle.std.specs.List.{list_all, zip}
use Rattle.std.proofs.lemmas.Iterator.{YieldsList-from_slice, YieldsList-from_zip}
use Rattle.std.proofs.lemmas.Iterator.Search.{all_from_yields_List}
use Rattle.weak_orders.proofs.Tests.{says_no}
use Rattle.frames.specs.Fields.{same_bytes}
use Rattle.frames.proofs.ByteTests.{says_same_bytes}
use Rattle.frames.proofs.field.same.Goals as goal

each_same : (a b : List ℕ) → length a ≡ length b → list_all (λ (p : ℕ × ℕ). eqb p.0 p.1) (zip a b) ≡ same_bytes a b
unfolding same_bytes
each_same [] [] e = refl
each_same [] (y ∷ b) e = absurd (omega arith)
each_same (x ∷ a) [] e = absurd (omega arith)
each_same (x ∷ a) (y ∷ b) e = ap (λ t. eqb x y && t) (each_same a b (omega arith))

pub returns-then-a-b : goal.returns-then-a-b
returns-then-a-b c =
    let a = c.args.a.now in
    let b = c.args.b.now in
    all_from_yields_List (λ (p : ℕ × ℕ). eqb p.0 p.1) c.all.new.self _ c.all.result c.all.ensures.ran
    (YieldsList-from_zip (YieldsList-from_slice a cc) (YieldsList-from_slice b cc)) (λ x b q k. search (rules, tests))
    ∙ each_same a b c.if-a-b.true

pub returns-else-a-b : goal.returns-else-a-b
returns-else-a-b c =
    let a = c.args.a.now in
    let b = c.args.b.now in
    ne_eqb _ _ c.if-a-b.false ∙ sym (says_no (says_same_bytes a b) (λ e. c.if-a-b.false (ap length e)))
