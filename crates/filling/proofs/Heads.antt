-- The list of all fillings stands in dictionary order, so the first filling heads it. Assumes nothing.
use mathlib.Core.Bool.{true}
use mathlib.Core.List.{List, [], ◌∷◌}
use mathlib.Core.Path.{◌≡◌}
use Prim.Native.Nat.{ℕ, ◌<◌}
use native.Mathlib.Omega.{arith}
use lib.ListN.{length, get_or}
use borrow.Author.Tests.{not-false}
use Rattle.weak_orders.specs.Window.{count}
use Rattle.weak_orders.proofs.Lists.{get_or_in}
use Rattle.weak_orders.proofs.Tests.{◌∈◌, split_mem, says_lt}
use Rattle.rotations.specs.Order.{lex_le, lex_lt}
use Rattle.rotations.proofs.Orders.{lex_refl, lex_lt_asymmetric}
use Rattle.ranking.specs.Dictionary.{select, height_windows}
use Rattle.ranking.proofs.Listing.{in_select, of_select, length-select}
use Rattle.ranking.proofs.Places.{in_height_windows, of_height_windows}
use Rattle.ranking.proofs.Sorted.{Sorted, one, sorted_select}
use Rattle.ranking.proofs.Strings.{height_windows_sorted}
use Rattle.filling.specs.Earliest.{earliest, IsFirst}
use Rattle.filling.specs.Pattern.{agrees, fillable}

lt_le : (u v : List ℕ) → lex_lt u v ≡ true → lex_le u v ≡ true
unfolding lex_lt
lt_le u v h = not-false (lex_le u v) (lex_lt_asymmetric u v h)

head_first : (l : List (List ℕ)) → Sorted lex_lt l → 0 < length l →
    (get_or l 0 [] ∈ l) × ((v : List ℕ) → v ∈ l → lex_le (get_or l 0 []) v ≡ true)
head_first [] s lt = absurd (omega arith)
head_first (x ∷ l) (one f s) lt = (get_or_in (x ∷ l) 0 [] lt, λ v m. split_mem (λ e. rw e (lex_refl x)) (λ k. lt_le x v (f v k)) m)

pub earliest_first : (n : ℕ) (p : List ℕ) → fillable n p ≡ true → IsFirst n p (earliest n p)
unfolding fillable earliest
earliest_first n p t =
    let some = (says_lt 0 (count (agrees p) (height_windows n))).to t in
    let l = select (agrees p) (height_windows n) in
    let (m, low) = head_first l (sorted_select (agrees p) (height_windows_sorted n)) (omega (arith, length-select (agrees p) (height_windows n))) in
    let (i, a) = of_select (agrees p) (height_windows n) m in
    record {
      filling = record { weak_order = of_height_windows n i; agreeing = a };
      first = λ v f. low v (in_select (agrees p) (in_height_windows n v f.weak_order) f.agreeing);
    }
