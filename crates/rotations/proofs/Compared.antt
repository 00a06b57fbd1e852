-- The symbols of a rotation by their indices, and the comparison of two lists symbol by symbol. Assumes nothing.
use mathlib.Core.Bool.{false}
use mathlib.Core.List.{List, [], ◌∷◌, ◌++◌}
use mathlib.Core.Path.{◌≡◌, refl, sym, ap, subst, ◌∙◌}
use Prim.Native.Nat.{ℕ, suc, ◌+◌, ◌-◌, ◌<◌, ◌≤◌}
use native.Mathlib.Omega.{arith}
use native.Mathlib.Numerals.{add-one}
use borrow.Author.Tests.{le-ltb, eq-eqb, ne_eqb}
use lib.ListN.{length, take, drop, get_or, length-drop, get_or-append}
use lib.Seq.{length-take-le, get_or-append-add, get_or-drop, get_or-take, drop-cons, drop-length}
use lib.Dec.{eqb}
use Rattle.std.specs.Ordering.{ordering_index}
use Rattle.weak_orders.specs.Says.{Says}
use Rattle.weak_orders.proofs.Tests.{by_test, says_as, says_eq}
use Rattle.rotations.specs.Order.{lex_le, lex_lt, same, compared}
use Rattle.rotations.specs.Rotation.{rotation}
use Rattle.std.specs.declared.cmp.Ordering.{Ordering}
use Rattle.std.specs.declared.cmp.Ordering.TheVariants.{Less, Equal, Greater}
use Rattle.rotations.proofs.Orders.{lex_antisymm, lex_lt_less, lex_lt_greater, lex_lt_equal}
use Rattle.rotations.proofs.Rotations.{turned_rotation, length_rotated}

-- the rotation from i of the first n symbols
module _ (w : List ℕ) (n i : ℕ) (le : n ≤ length w) (lt : i < n) where
  length_window : length (take n w) ≡ n
  length_window = length-take-le n w le

  length_front : length (drop i (take n w)) ≡ n - i
  length_front = length-drop i (take n w) ∙ ap (λ (m : ℕ). m - i) length_window

  pub rotation-length : length (rotation (take n w) i) ≡ n
  rotation-length = length_rotated (turned_rotation (take n w) i) ∙ length_window

  -- its symbols are those from i on, and then those before i
  pub rotation_on : (k : ℕ) → i + k < n → get_or w (i + k) 0 ≡ get_or (rotation (take n w) i) k 0
  unfolding rotation
  rotation_on k h = sym (
      get_or-append (drop i (take n w)) (take i (take n w)) 0 k (omega (arith, length_front))
      ∙ get_or-drop i (take n w) k 0
      ∙ get_or-take n w (i + k) 0 h)

  pub rotation_round : (k : ℕ) → k < n → n ≤ i + k → get_or w (i + k - n) 0 ≡ get_or (rotation (take n w) i) k 0
  unfolding rotation
  rotation_round k h over =
      let m = i + k - n in
      let e : k ≡ length (drop i (take n w)) + m = omega (arith, length_front) in
      sym (
      ap (λ (j : ℕ). get_or (drop i (take n w) ++ take i (take n w)) j 0) e
      ∙ get_or-append-add (drop i (take n w)) (take i (take n w)) m 0
      ∙ get_or-take i (take n w) m 0 (omega arith)
      ∙ get_or-take n w m 0 (omega arith))

-- the first symbols decide, or the rests where they are equal
module _ (x y : ℕ) (u v : List ℕ) where
  compared_less : x < y → Less ≡ compared (x ∷ u) (y ∷ v)
  unfolding compared
  compared_less lt = rw (lex_lt_less x y u v lt)

  compared_greater : y < x → Greater ≡ compared (x ∷ u) (y ∷ v)
  unfolding compared same lex_le
  compared_greater gt = rw (lex_lt_greater x y u v gt, ne_eqb x y (λ e. omega arith), le-ltb x y (omega arith))

  compared_equal : x ≡ y → compared (x ∷ u) (y ∷ v) ≡ compared u v
  unfolding compared same lex_le
  compared_equal e = rw (lex_lt_equal x y u v e, eq-eqb x y e, eq-eqb y x (sym e))

-- two lists that compare as what is left of them from index k does, where x and y stand
pub record Front (a b : List ℕ) (k x y : ℕ) : Type 0 where
  pub left : compared a b ≡ compared (drop k a) (drop k b)
  pub in_a : k < length a
  pub in_b : k < length b
  pub of_a : x ≡ get_or a k 0
  pub of_b : y ≡ get_or b k 0

module _ (a b : List ℕ) (k x y : ℕ) (h : Front a b k x y) where
  fronts : compared a b ≡ compared (x ∷ drop (suc k) a) (y ∷ drop (suc k) b)
  fronts = rw (h.left, drop-cons a k 0 h.in_a, drop-cons b k 0 h.in_b, h.of_a, h.of_b)

  pub front_less : x < y → Less ≡ compared a b
  front_less lt = compared_less x y (drop (suc k) a) (drop (suc k) b) lt ∙ sym fronts

  pub front_greater : y < x → Greater ≡ compared a b
  front_greater gt = compared_greater x y (drop (suc k) a) (drop (suc k) b) gt ∙ sym fronts

  pub front_equal : x ≡ y → compared a b ≡ compared (drop (k + 1) a) (drop (k + 1) b)
  front_equal e = rw add-one (fronts ∙ compared_equal x y (drop (suc k) a) (drop (suc k) b) e)

-- nothing is left
pub compared_end : (a b : List ℕ) (k : ℕ) → length a ≡ k → length b ≡ k → compared a b ≡ compared (drop k a) (drop k b) → Equal ≡ compared a b
unfolding compared lex_lt same lex_le
compared_end a b k e e' h =
    let nil : drop k a ≡ [] = rw (← e) (drop-length a) in
    let nil' : drop k b ≡ [] = rw (← e') (drop-length b) in
    sym (h ∙ rw (nil, nil'))

-- what each answer says of the order
abbrev pub Told : List ℕ → List ℕ → Ordering → Type 0
Told u v Less = lex_le v u ≡ false
Told u v Equal = u ≡ v
Told u v Greater = lex_le u v ≡ false

pub told : (u v : List ℕ) (c : Ordering) → compared u v ≡ c → Told u v c
unfolding compared lex_lt same
told u v c e = subst (Told u v) e (by_test (lex_le v u)
    (λ t. by_test (lex_le u v) (λ t'. rw (t, t') (lex_antisymm u v t' t)) (λ f. rw (t, f) f))
    (λ f. rw f f))

-- answers are compared by their indices
pub says_answer : (a b : Ordering) → Says (eqb (ordering_index a) (ordering_index b)) (a ≡ b)
says_answer a b = says_as (says_eq (ordering_index a) (ordering_index b)) (of_index a b) (ap ordering_index)
  where
    of_index : (a b : Ordering) → ordering_index a ≡ ordering_index b → a ≡ b
    of_index Less Less e = refl
    of_index Less Equal e = absurd (omega arith)
    of_index Less Greater e = absurd (omega arith)
    of_index Equal Less e = absurd (omega arith)
    of_index Equal Equal e = refl
    of_index Equal Greater e = absurd (omega arith)
    of_index Greater Less e = absurd (omega arith)
    of_index Greater Equal e = absurd (omega arith)
    of_index Greater Greater e = refl
