-- The symbols of an array from one index to another, as a list. Assumes nothing.
use mathlib.Core.List.{List, [], ◌∷◌, ◌++◌}
use mathlib.Core.Path.{◌≡◌, sym, ap, subst, ◌∙◌}
use Prim.Native.Nat.{ℕ, min, ◌+◌, ◌-◌, ◌<◌, ◌≤◌}
use native.Mathlib.Omega.{arith}
use native.Mathlib.Numerals.{add-one}
use native.Mathlib.Decide.{dec_le}
use lib.ListN.{length, take, drop, get_or, set, length-take, length-drop, drop_of_length-le}
use lib.Seq.{length-take-le, take_all, get_or-drop, get_or-take, take-suc, drop-append-le, drop-cons, set_split, take-set-lt}
use Rattle.weak_orders.proofs.Tests.{◌∈◌}
use Rattle.weak_orders.proofs.Lists.{get_or_in, in_get_or}

-- no more than the whole is taken
pub take_capped : (w : List ℕ) (n m : ℕ) → length w ≡ m → take (min n m) w ≡ take n w
take_capped w n m e = elim (dec_le n m) [
  | yes l ↦ let q : min n m ≡ n = omega arith in rw q
  | no l ↦ let q : min n m ≡ m = omega arith in rw q (take_all m w (omega arith) ∙ sym (take_all n w (omega arith)))
]

-- so what is looked at of an array is all that n asks for
pub capped_window : (w : List ℕ) (n m e : ℕ) → length w ≡ m → e ≡ min n m → (length (take e w) ≡ e) × (take e w ≡ take n w)
capped_window w n m e l c = (length-take-le e w (omega arith), rw c (take_capped w n m l))

module _ (w : List ℕ) (a n : ℕ) (le : n ≤ length w) where
  pub part_length : length (drop a (take n w)) ≡ n - a
  part_length = length-drop a (take n w) ∙ ap (λ (m : ℕ). m - a) (length-take-le n w le)

  part_at : (j : ℕ) → a + j < n → get_or (drop a (take n w)) j 0 ≡ get_or w (a + j) 0
  part_at j lt = get_or-drop a (take n w) j 0 ∙ get_or-take n w (a + j) 0 lt

  -- its members are the elements at these indices
  pub at_part : (k : ℕ) → a ≤ k → k < n → get_or w k 0 ∈ drop a (take n w)
  at_part k ak kn =
      let e : a + (k - a) ≡ k = omega arith in
      subst (λ (y : ℕ). y ∈ drop a (take n w)) (part_at (k - a) (omega arith) ∙ ap (λ (i : ℕ). get_or w i 0) e)
      (get_or_in (drop a (take n w)) (k - a) 0 (omega (arith, part_length)))

  pub of_part : (y : ℕ) → y ∈ drop a (take n w) → (k : ℕ) × (a ≤ k) × (k < n) × (get_or w k 0 ≡ y)
  of_part y m =
      let (j, lt, e) = in_get_or 0 m in
      (a + j, omega arith, omega (arith, part_length), sym (part_at j (omega (arith, part_length))) ∙ e)

-- none, one more behind, and one less in front
pub part_none : (w : List ℕ) (a n : ℕ) → n ≤ a → drop a (take n w) ≡ []
part_none w a n h = let e : length (take n w) ≤ a = simp length-take (omega arith) in drop_of_length-le (take n w) e

pub part_more : (w : List ℕ) (a i : ℕ) → i < length w → a ≤ i → drop a (take (i + 1) w) ≡ drop a (take i w) ++ (get_or w i 0 ∷ [])
part_more w a i lt le = rw (
  add-one,
  take-suc w i 0 lt,
  drop-append-le a (take i w) (get_or w i 0 ∷ []) (omega (arith, length-take-le i w (omega arith))),
)

pub part_front : (w : List ℕ) (i n : ℕ) → n ≤ length w → i < n → drop i (take n w) ≡ get_or w i 0 ∷ drop (i + 1) (take n w)
part_front w i n le lt = rw (add-one, ← get_or-take n w i 0 lt) (drop-cons (take n w) i 0 (omega (arith, length-take-le n w le)))

-- a window begins with its first symbol; another put there leaves the rest
pub window_front : (w : List ℕ) (n : ℕ) → n ≤ length w → 0 < n → take n w ≡ get_or w 0 0 ∷ drop 1 (take n w)
window_front w n le lt = part_front w 0 n le lt

pub window_set : (w : List ℕ) (n x : ℕ) → 0 < n → n ≤ length w → take n (set w 0 x) ≡ x ∷ drop 1 (take n w)
window_set w n x lt le = take-set-lt n w 0 x lt ∙ set_split (take n w) 0 x (omega (arith, length-take-le n w le))
