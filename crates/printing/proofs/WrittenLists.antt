-- Signed decimals and lists of decimals, in the parts in which they are written. Assumes nothing.
use mathlib.Core.Bool.{true, false}
use mathlib.Core.List.{List, [], ◌∷◌, ◌++◌, append_assoc, append-nil}
use mathlib.Core.Path.{◌≡◌, refl, sym, ap, ◌∙◌}
use Prim.Native.Nat.{ℕ, zero, suc, ◌+◌, ◌-◌, ◌≤◌, ◌<◌}
use native.Mathlib.Numerals.{add-one}
use native.Mathlib.Omega.{arith}
use lib.IntN.{ℤ, pos, negsuc, nat_abs}
use lib.ListN.{length, get_or, take, drop, length-append}
use lib.Seq.{drop-append-le, take-suc, length-take-le, take-add}
use lib.Signed.{lt_z, non_neg}
use lib.Dec.{T}
use borrow.Author.Tests.{ltb-true}
use Rattle.decimals.specs.Text.{decimal, signed, commaed, joined}

-- ---- signed decimals

pub signed_below : (z : ℤ) → lt_z z (pos 0) ≡ true → signed z ≡ 45 ∷ decimal (nat_abs z)
unfolding signed
signed_below (pos n) e = absurd (let l : n < 0 = ltb-true n 0 e in omega arith)
signed_below (negsuc n) e = refl

pub signed_above : (z : ℤ) → lt_z z (pos 0) ≡ false → signed z ≡ decimal (nat_abs z)
unfolding signed
signed_above (pos n) e = refl
signed_above (negsuc n) e = absurd (let l : ◌≡◌ {A = ℕ} 0 1 = cc in omega arith)

pub above : (z : ℤ) → lt_z z (pos 0) ≡ false → T (non_neg z)
above (pos n) e = tt
above (negsuc n) e = absurd (let l : ◌≡◌ {A = ℕ} 0 1 = cc in omega arith)

-- ---- lists

pub commaed_one : (v : ℕ) → commaed (v ∷ []) ≡ 44 ∷ decimal v
unfolding commaed
commaed_one v = ap (λ t. 44 ∷ t) (append-nil (decimal v))

pub commaed_append : (l m : List ℕ) → commaed (l ++ m) ≡ commaed l ++ commaed m
unfolding commaed
commaed_append [] m = refl
commaed_append (x ∷ l) m = rw (commaed_append l m, append_assoc)

-- the symbols of a window behind the first
pub joined_first : (w : List ℕ) (n : ℕ) → 1 ≤ n → n ≤ length w → joined (take n w) ≡ decimal (get_or w 0 0) ++ commaed (drop 1 (take n w))
unfolding joined
joined_first w zero p h = absurd (omega arith)
joined_first [] (suc n) p h = absurd (omega arith)
joined_first (x ∷ w) (suc n) p h = refl

pub no_others : (w : List ℕ) → commaed (drop 1 (take 1 w)) ≡ []
unfolding commaed
no_others [] = refl
no_others (x ∷ w) = refl

-- what some symbols take is no more than what more of them take
pub others_le : (w : List ℕ) (i n : ℕ) → 1 ≤ i → i ≤ n → n ≤ length w →
    length (commaed (drop 1 (take i w))) ≤ length (commaed (drop 1 (take n w)))
others_le w i n p h l =
    let k = n - i in
    let e : n ≡ i + k = omega arith in
    let rest = take k (drop i w) in
    let front = drop-append-le 1 (take i w) rest (omega (arith, length-take-le i w (omega arith))) in
    let t = ap (λ m. drop 1 (take m w)) e ∙ ap (drop 1) (take-add i k w) ∙ front in
    omega (arith, ap length (ap commaed t ∙ commaed_append (drop 1 (take i w)) rest), length-append (commaed (drop 1 (take i w))) (commaed rest))

module _ (w : List ℕ) (i : ℕ) (p : 1 ≤ i) (h : i < length w) where
  -- one symbol more
  pub commaed-next : commaed (drop 1 (take i w)) ++ commaed (get_or w i 0 ∷ []) ≡ commaed (drop 1 (take (i + 1) w))
  commaed-next =
      let front = drop-append-le 1 (take i w) (get_or w i 0 ∷ []) (omega (arith, length-take-le i w (omega arith))) in
      rw (add-one, take-suc w i 0 h, front) (sym (commaed_append (drop 1 (take i w)) (get_or w i 0 ∷ [])))

  pub others_room : (n : ℕ) → i < n → n ≤ length w →
      length (commaed (drop 1 (take i w))) + length (commaed (get_or w i 0 ∷ [])) ≤ length (commaed (drop 1 (take n w)))
  others_room n lt l = omega (
    arith,
    others_le w (i + 1) n (omega arith) (omega arith) l,
    ap length commaed-next,
    length-append (commaed (drop 1 (take i w))) (commaed (get_or w i 0 ∷ [])),
  )
