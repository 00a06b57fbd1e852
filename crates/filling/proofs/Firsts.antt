-- The first filling in dictionary order: there is only one, and it stays the same where the first open place gets the least height that leaves
-- a filling. Assumes nothing.
use mathlib.Core.Bool.{true, false}
use mathlib.Core.List.{List, [], ◌∷◌, ◌++◌, append-nil}
use mathlib.Core.Logic.{◌⊎◌, inl, inr, ⊎_elim}
use mathlib.Core.Path.{◌≡◌, refl, sym, ap₂}
use Prim.Native.Nat.{ℕ, ◌<◌}
use native.Mathlib.Omega.{arith}
use native.Mathlib.Decide.{dec_lt, ℕ_discrete}
use Rattle.weak_orders.specs.Window.{count}
use Rattle.weak_orders.proofs.Lists.{count-pos}
use Rattle.weak_orders.proofs.Tests.{bit, says_lt, false→not_true}
use Rattle.rotations.specs.Order.{lex_le}
use Rattle.rotations.proofs.Orders.{lex_cons, lex_antisymm}
use Rattle.ranking.specs.Dictionary.{height_windows}
use Rattle.ranking.proofs.Places.{in_height_windows}
use Rattle.filling.specs.Earliest.{earliest, IsFirst}
use Rattle.filling.specs.Pattern.{is_open, agrees, Filling, fillable, open_places}
use Rattle.filling.proofs.Heads.{earliest_first}
use Rattle.filling.proofs.Patterns.{open_cons, says_agrees, no_shorter, no_longer, agrees_nil}

-- ---- there is one just where the pattern has a filling

pub filling_fillable : (n : ℕ) (p w : List ℕ) → Filling n p w → fillable n p ≡ true
unfolding fillable
filling_fillable n p w f =
    (says_lt 0 (count (agrees p) (height_windows n))).of (count-pos (agrees p) (in_height_windows n w f.weak_order) f.agreeing)

pub earliest_only : (n : ℕ) (p w : List ℕ) → IsFirst n p w → w ≡ earliest n p
earliest_only n p w F =
    let E = earliest_first n p (filling_fillable n p w F.filling) in
    lex_antisymm w (earliest n p) (F.first (earliest n p) E.filling) (E.first w F.filling)

-- ---- what agrees

agrees_front : (u v s : List ℕ) → agrees v s ≡ true → agrees (u ++ v) (u ++ s) ≡ true
agrees_front [] v s a = a
agrees_front (c ∷ u) v s a = (says_agrees c (u ++ v) c (u ++ s)).of (inr refl, agrees_front u v s a)

pub agrees_itself : (p : List ℕ) → agrees p p ≡ true
agrees_itself p = rw append-nil at (agrees_front p [] [] agrees_nil)

module _ (b : ℕ) (p : List ℕ) (e : open_places (b ∷ p) ≡ 0) where
  -- no place is open: not the first, and none behind it
  none-behind : open_places p ≡ 0
  none-behind = omega (arith, open_cons b p)

  first_same : (x : ℕ) → (is_open b ≡ true) ⊎ (b ≡ x) → b ≡ x
  first_same x = ⊎_elim (λ o. let one : bit (is_open b) ≡ 1 = rw o in absurd (omega (arith, open_cons b p))) (λ s. s)

-- then only the pattern itself agrees
pub agrees_only : (p w : List ℕ) → open_places p ≡ 0 → agrees p w ≡ true → w ≡ p
agrees_only [] [] e t = refl
agrees_only [] (x ∷ w) e t = no_longer x w t
agrees_only (b ∷ p) [] e t = no_shorter b p t
agrees_only (b ∷ p) (x ∷ w) e t =
    let (first, rest) = (says_agrees b p x w).to t in
    ap₂ ◌∷◌ (sym (first_same b p e x first)) (agrees_only p w (none-behind b p e) rest)

-- what agrees with u, b, v, where u has no open place: u, a height in the place of b, and what agrees with v
record Behind (u v : List ℕ) (b : ℕ) (w : List ℕ) : Type 0 where
  pub height : ℕ
  pub after : List ℕ
  pub whole : w ≡ u ++ (height ∷ after)
  pub there : (is_open b ≡ true) ⊎ (b ≡ height)
  pub rest : agrees v after ≡ true

behind : (u v : List ℕ) (b : ℕ) (w : List ℕ) → open_places u ≡ 0 → agrees (u ++ (b ∷ v)) w ≡ true → Behind u v b w
behind [] v b [] e t = no_shorter b v t
behind [] v b (y ∷ r) e t =
    let (there, rest) = (says_agrees b v y r).to t in
    record { height = y; after = r; whole = refl; there = there; rest = rest }
behind (c ∷ u) v b [] e t = no_shorter c (u ++ (b ∷ v)) t
behind (c ∷ u) v b (d ∷ w) e t =
    let (first, rest) = (says_agrees c (u ++ (b ∷ v)) d w).to t in
    let B = behind u v b w (none-behind c u e) rest in
    record {
      height = B.height;
      after = B.after;
      whole = ap₂ ◌∷◌ (sym (first_same c u e d first)) B.whole;
      there = B.there;
      rest = B.rest;
    }

module _ {u v : List ℕ} {b : ℕ} {w : List ℕ} (B : Behind u v b w) where
  -- it agrees with every byte in that place that is open or its height
  agrees_with : (c : ℕ) → (is_open c ≡ true) ⊎ (c ≡ B.height) → agrees (u ++ (c ∷ v)) w ≡ true
  agrees_with c h = rw B.whole (agrees_front u (c ∷ v) (B.height ∷ B.after) ((says_agrees c v B.height B.after).of (h, B.rest)))

-- ---- one open place filled

lex_front : (u s t : List ℕ) → lex_le s t ≡ true → lex_le (u ++ s) (u ++ t) ≡ true
lex_front [] s t h = h
lex_front (x ∷ u) s t h = (lex_cons x (u ++ s) x (u ++ t)).of (inr (refl, lex_front u s t h))

-- x in the first open place, where no smaller height there leaves a filling
module _ (n : ℕ) (u v : List ℕ) (b x : ℕ) (e : open_places u ≡ 0) (o : is_open b ≡ true) (h : is_open x ≡ false)
    (least : (y : ℕ) → y < x → (w : List ℕ) → ¬ Filling n (u ++ (y ∷ v)) w) where
  -- one with more in that place stands behind
  later : {w s : List ℕ} (A : Behind u v x w) (B : Behind u v b s) → x < B.height → lex_le w s ≡ true
  later A B lt =
      let same : x ≡ A.height = ⊎_elim (λ o. absurd (false→not_true (is_open x) h o)) (λ s. s) A.there in
      rw (A.whole, B.whole) (lex_front u _ _ ((lex_cons A.height A.after B.height B.after).of (inl (omega arith))))

  pub first_kept : (w : List ℕ) → IsFirst n (u ++ (x ∷ v)) w → IsFirst n (u ++ (b ∷ v)) w
  first_kept w F = let A = behind u v x w e F.filling.agreeing in record {
    filling = record { weak_order = F.filling.weak_order; agreeing = agrees_with A b (inl o) };
    first = λ s f.
        let B = behind u v b s e f.agreeing in
        let y = B.height in
        let g : Filling n (u ++ (y ∷ v)) s = record { weak_order = f.weak_order; agreeing = agrees_with B y (inr refl) } in
        elim (ℕ_discrete y x) [
          | yes same ↦ F.first s (rw same at g)
          | no ne ↦ elim (dec_lt y x) [
            | yes lt ↦ absurd (least y lt s g)
            | no ge ↦ later A B (omega arith)
          ]
        ];
  }
