-- The claims of specs/Claims.antt. Assumes nothing.
use mathlib.Core.Bool.{true, false}
use mathlib.Core.List.{List}
use mathlib.Core.Path.{◌≡◌, sym, ◌∙◌}
use Prim.Native.Nat.{ℕ, ◌≤◌}
use lib.Dec.{ltb, leb}
use borrow.Author.Tests.{ltb-false}
use Rattle.weak_orders.proofs.Tests.{false→not_true, says_le, says_itself, says_as, same_test}
use Rattle.rotations.specs.Order.{lex_le, lex_lt}
use Rattle.ranking.specs.Dictionary.{place}
use Rattle.ranking.specs.Numbering.{HeightWindow}
use Rattle.ranking.proofs.CountsAndPlaces.{counts_and_places}
use Rattle.filling.specs.Claims.{EarliestLaws}
use Rattle.filling.specs.Earliest.{earliest}
use Rattle.filling.specs.Pattern.{is_pattern, fillable, open_places, missing}
use Rattle.filling.proofs.Fillings.{HasRoom, first_whole, room_fillable}
use Rattle.filling.proofs.Firsts.{filling_fillable, earliest_only}
use Rattle.filling.proofs.Heads.{earliest_first}
use Rattle.filling.proofs.Patterns.{room}

-- where a weak order agrees, there is room for the missing heights
pub fillable_room : (n : ℕ) (p : List ℕ) → is_pattern n p ≡ true → fillable n p ≡ true → HasRoom n p
fillable_room n p t h = record { pattern = t; enough = room n p (earliest n p) (earliest_first n p h).filling }

pub just_if : (n : ℕ) (p : List ℕ) → n ≤ 16 → is_pattern n p ≡ true → fillable n p ≡ leb (missing p) (open_places p)
just_if n p few t = same_test
    (says_as (says_itself (fillable n p))
    (λ h. (fillable_room n p t h).enough)
    (λ m. room_fillable n few p (record { pattern = t; enough = m })))
    (says_le (missing p) (open_places p))

-- places go by dictionary order
lex_place : (n : ℕ) (u v : List ℕ) → HeightWindow n u → HeightWindow n v → lex_le u v ≡ true → place u ≤ place v
unfolding lex_lt
lex_place n u v hu hv le =
    let N = counts_and_places.places n in
    let order = counts_and_places.in_order n (place v) (place u) (N.place-below v hv) (N.place-below u hu) in
    let not-before : ltb (place v) (place u) ≡ false = sym order ∙ rw (N.item_place v hv, N.item_place u hu, le) in
    ltb-false (place v) (place u) not-before

pub earliest_laws : EarliestLaws
earliest_laws = record {
  none = λ n p f w g. false→not_true (fillable n p) f (filling_fillable n p w g);
  some = filling_fillable;
  just_if = just_if;
  first = earliest_first;
  only = earliest_only;
  least_place = λ n p w f.
      let F = earliest_first n p (filling_fillable n p w f) in
      lex_place n (earliest n p) w F.filling.weak_order f.weak_order (F.first w f);
  itself = λ n p e h. sym (earliest_only n p p (first_whole n p e h));
}
