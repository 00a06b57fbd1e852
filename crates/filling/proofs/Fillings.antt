-- A pattern with room for its missing heights has a filling, and filling it from the left keeps the first one. Assumes nothing.
use mathlib.Core.Bool.{true, false}
use mathlib.Core.List.Memᴰ
use mathlib.Core.List.{List, [], ◌∷◌, ◌++◌, append-nil}
use mathlib.Core.Logic.{inr, ⊎_elim}
use mathlib.Core.Path.{◌≡◌, ap}
use Prim.Native.Nat.{ℕ, ◌≤◌, ◌<◌}
use native.Mathlib.Omega.{arith}
use lib.ListN.{length-append}
use lib.Seq.{append_snoc}
use borrow.Author.Tests.{ne_eqb}
use Rattle.weak_orders.specs.Window.{different, bound}
use Rattle.weak_orders.proofs.HeightForm.{form_height}
use Rattle.weak_orders.proofs.Symbols.{bound_le, different≤bound}
use Rattle.weak_orders.proofs.Tests.{there, split_mem, by_test, bit}
use Rattle.rotations.proofs.Orders.{lex_refl}
use Rattle.ranking.specs.Numbering.{HeightWindow}
use Rattle.filling.specs.Choice.{choice, height_for}
use Rattle.filling.specs.Earliest.{earliest, IsFirst}
use Rattle.filling.specs.Pattern.{is_open, is_pattern, Filling, fillable, fixed, open_places, missing}
use Rattle.filling.proofs.Choices.{choice-bound, choice_keeps, choice_least}
use Rattle.filling.proofs.Firsts.{filling_fillable, earliest_only, agrees_itself, agrees_only, first_kept}
use Rattle.filling.proofs.Heads.{earliest_first}
use Rattle.filling.proofs.Patterns.{open_nil, open_cons, open_append, fixed_whole, says_pattern, fixed-below, room}

-- a pattern with at least as many open places as missing heights
pub record HasRoom (n : ℕ) (p : List ℕ) : Type 0 where
  pub pattern : is_pattern n p ≡ true
  pub enough : missing p ≤ open_places p

-- ---- one place

-- no height of up to 16 symbols is the open byte
below_open : (n x : ℕ) → n ≤ 16 → x < n → is_open x ≡ false
below_open n x le lt = ne_eqb x 255 (λ e. omega arith)

pattern_with : (n : ℕ) (u v : List ℕ) (b x : ℕ) → is_pattern n (u ++ (b ∷ v)) ≡ true → x < n → is_pattern n (u ++ (x ∷ v)) ≡ true
pattern_with n u v b x t lt =
    let (long, each) = (says_pattern n (u ++ (b ∷ v))).to t in
    (says_pattern n (u ++ (x ∷ v))).of (
      omega (arith, length-append u (x ∷ v), length-append u (b ∷ v)),
      λ c m. ⊎_elim
          (λ k. each c (Memᴰ.append_left (b ∷ v) k))
          (λ k. split_mem (λ e. inr (omega arith)) (λ j. each c (Memᴰ.append_right u (there j))) k)
          (Memᴰ.append_cases u m),
    )

module _ (n : ℕ) (few : n ≤ 16) (u v : List ℕ) (b : ℕ) (R : HasRoom n (u ++ (b ∷ v))) where
  height_held : is_open b ≡ false → height_for (u ++ (b ∷ v)) b ≡ b
  unfolding height_for
  height_held h = rw h

  height_open : is_open b ≡ true → height_for (u ++ (b ∷ v)) b ≡ choice (u ++ (b ∷ v))
  unfolding height_for
  height_open o = rw o

  choice_low : is_open b ≡ true → choice (u ++ (b ∷ v)) < n
  choice_low o = omega (
    arith,
    choice-bound u v b o R.enough,
    bound_le n (fixed (u ++ (b ∷ v))) (fixed-below n (u ++ (b ∷ v)) R.pattern),
    ((says_pattern n (u ++ (b ∷ v))).to R.pattern).0,
    length-append u (b ∷ v),
  )

  choice_held : is_open b ≡ true → is_open (choice (u ++ (b ∷ v))) ≡ false
  choice_held o = below_open n (choice (u ++ (b ∷ v))) few (choice_low o)

  -- a place is open no longer,
  pub closed : is_open (height_for (u ++ (b ∷ v)) b) ≡ false
  closed = by_test (is_open b) (λ o. rw (height_open o) (choice_held o)) (λ h. rw (height_held h) h)

  -- there is room still,
  pub room_kept : HasRoom n (u ++ (height_for (u ++ (b ∷ v)) b ∷ v))
  room_kept = by_test (is_open b)
      (λ o. rw (height_open o) (record {
        pattern = pattern_with n u v b (choice (u ++ (b ∷ v))) R.pattern (choice_low o);
        enough = choice_keeps u v b o R.enough (choice_held o);
      }))
      (λ h. rw (height_held h) R)

  -- and the first filling is that of the pattern, once there is one
  module _ (e : open_places u ≡ 0) where
    no_smaller : is_open b ≡ true → (y : ℕ) → y < choice (u ++ (b ∷ v)) → (w : List ℕ) → ¬ Filling n (u ++ (y ∷ v)) w
    no_smaller o y lt w f =
        choice_least u v b o R.enough y (below_open n y few (omega (arith, choice_low o))) lt (room n (u ++ (y ∷ v)) w f)

    first_then : (w : List ℕ) → IsFirst n (u ++ (height_for (u ++ (b ∷ v)) b ∷ v)) w → IsFirst n (u ++ (b ∷ v)) w
    first_then w F = by_test (is_open b)
        (λ o. first_kept n u v b (choice (u ++ (b ∷ v))) e o (choice_held o) (no_smaller o) w (rw (height_open o) at F))
        (λ h. rw (height_held h) at F)

-- ---- all places

-- no open place: the pattern itself
pub first_whole : (n : ℕ) (u : List ℕ) → open_places u ≡ 0 → HeightWindow n u → IsFirst n u u
first_whole n u e h = record {
  filling = record { weak_order = h; agreeing = agrees_itself u };
  first = λ v f. rw (agrees_only u v e f.agreeing) (lex_refl u);
}

-- where there is room for the missing heights, none is missing then
pub room_whole : (n : ℕ) (u : List ℕ) → open_places u ≡ 0 → HasRoom n u → HeightWindow n u
unfolding missing
room_whole n u e R =
    let all = fixed_whole u e in
    (((says_pattern n u).to R.pattern).0, form_height u (omega (arith, R.enough, ap bound all, ap different all, different≤bound u)))

pub open_behind : (u : List ℕ) (x : ℕ) → open_places u ≡ 0 → is_open x ≡ false → open_places (u ++ (x ∷ [])) ≡ 0
open_behind u x e h =
    let none : bit (is_open x) ≡ 0 = rw h in
    omega (arith, open_append u (x ∷ []), open_cons x [], open_nil)

module _ (n : ℕ) (few : n ≤ 16) where
  room_first : (v u : List ℕ) → open_places u ≡ 0 → HasRoom n (u ++ v) → (w : List ℕ) × IsFirst n (u ++ v) w
  room_first [] u e R = (u, rw append-nil (first_whole n u e (room_whole n u e (rw append-nil at R))))
  room_first (b ∷ v) u e R =
      let x = height_for (u ++ (b ∷ v)) b in
      let (w, F) = room_first v (u ++ (x ∷ [])) (open_behind u x e (closed n few u v b R)) (rw append_snoc (room_kept n few u v b R)) in
      (w, first_then n few u v b R e w (rw append_snoc at F))

  pub room_fillable : (p : List ℕ) → HasRoom n p → fillable n p ≡ true
  room_fillable p R = let (w, F) = room_first p [] open_nil R in filling_fillable n p w F.filling

  -- so the earliest filling is kept, place by place
  pub earliest-kept : (u v : List ℕ) (b : ℕ) → open_places u ≡ 0 → HasRoom n (u ++ (b ∷ v)) →
      earliest n (u ++ (height_for (u ++ (b ∷ v)) b ∷ v)) ≡ earliest n (u ++ (b ∷ v))
  earliest-kept u v b e R =
      let q = u ++ (height_for (u ++ (b ∷ v)) b ∷ v) in
      earliest_only n (u ++ (b ∷ v)) (earliest n q)
      (first_then n few u v b R e (earliest n q) (earliest_first n q (room_fillable q (room_kept n few u v b R))))
