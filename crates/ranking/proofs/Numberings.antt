-- A numbering of some things numbers what corresponds to them one to one. Assumes nothing.
use mathlib.Core.Logic.{◌↔◌}
use mathlib.Core.Path.{◌≡◌, refl, ap, ◌∙◌}
use Prim.Native.Nat.{ℕ}
use Rattle.ranking.specs.Numbering.{Numbering, Exactly}

-- `to` and `from` take what Q holds of to what P holds of, and back
pub record Matching {A B : Type 0} (P : A → Type 0) (Q : B → Type 0) (to : B → A) (from : A → B) : Type 0 where
  pub to_in : (w : B) → Q w → P (to w)
  pub from_in : (w : A) → P w → Q (from w)
  pub from_to : (w : B) → Q w → from (to w) ≡ w
  pub to_from : (w : A) → P w → to (from w) ≡ w

pub numbering_through : {A B : Type 0} {P : A → Type 0} {Q : B → Type 0} {N : ℕ} {place : A → ℕ} {item : ℕ → A}
    {to : B → A} {from : A → B} → Numbering P N place item → Matching P Q to from → Numbering Q N (λ w. place (to w)) (λ i. from (item i))
numbering_through {place = place} {item} {to} {from} H M = record {
  place-below = λ w q. H.place-below (to w) (M.to_in w q);
  item_place = λ w q. ap from (H.item_place (to w) (M.to_in w q)) ∙ M.from_to w q;
  item_in = λ i l. M.from_in (item i) (H.item_in i l);
  place_item = λ i l. ap place (M.to_from (item i) (H.item_in i l)) ∙ H.place_item i l;
}

-- and the same things, said in other words
pub exactly_as : {A : Type 0} {P Q : A → Type 0} {N : ℕ} → Exactly N P → ((w : A) → P w ↔ Q w) → Exactly N Q
exactly_as {A} {P} {Q} (place, item, H) same =
    let M : Matching P Q (λ w. w) (λ w. w) = record {
      to_in = λ w. (same w).1;
      from_in = λ w. (same w).0;
      from_to = λ w q. refl;
      to_from = λ w p. refl;
    } in
    (_, _, numbering_through H M)
