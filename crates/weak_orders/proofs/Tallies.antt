-- Tables of counts: what each entry is, and how one more symbol changes the table. Assumes nothing.
use mathlib.Core.List.{List, [], ◌∷◌, ◌++◌, map}
use mathlib.Core.Logic.{◌≢◌}
use mathlib.Core.Path.{◌≡◌, sym, ◌∙◌}
use Prim.Native.Nat.{ℕ, min, ◌+◌, ◌<◌, ◌≤◌}
use native.Mathlib.Omega.{arith}
use native.Mathlib.Decide.{dec_le, ℕ_discrete}
use lib.Dec.{ltb, eqb}
use lib.ListN.{length, get_or, set, length-map, length-append, length-set, get_or-append}
use lib.Seq.{ext_get_or, get_or_at, get_or-set_same, get_or-set_other}
use borrow.Author.Tests.{lt-ltb, le-ltb, eq-eqb, ne_eqb}
use Rattle.weak_orders.specs.Window.{count, range, num}
use Rattle.weak_orders.specs.Tables.{tally}
use Rattle.weak_orders.proofs.Tests.{bit}
use Rattle.weak_orders.proofs.Lists.{length-range, get_or_map-range, count_nil, count_cons, count_append, count_le_length}
use Rattle.weak_orders.proofs.Symbols.{num_nil, num_front, num_append, num_le_length}

pub tally-length : (l : List ℕ) → length (tally l) ≡ 18
unfolding tally
tally-length l = omega (
  arith,
  length-append (map (num l) (range 17)) (count (ltb 16) l ∷ []),
  length-map (range 17) (num l),
  length-range 17,
)

-- document 01's num(v), for every symbol up to 16
pub tally-num : (l : List ℕ) (v : ℕ) → v ≤ 16 → get_or (tally l) v 0 ≡ num l v
unfolding tally
tally-num l v h =
    get_or-append (map (num l) (range 17)) (count (ltb 16) l ∷ []) 0 v (omega (arith, length-map (range 17) (num l), length-range 17))
    ∙ get_or_map-range (num l) 17 v (omega arith)

pub tally_larger : (l : List ℕ) → get_or (tally l) 17 0 ≡ count (ltb 16) l
unfolding tally
tally_larger l = get_or_at (map (num l) (range 17)) (count (ltb 16) l) [] 0 17 (length-map (range 17) (num l) ∙ length-range 17)

-- no entry is more than the length
pub tally_le : (l : List ℕ) (i : ℕ) → i < 18 → get_or (tally l) i 0 ≤ length l
tally_le l i h = elim (dec_le i 16) [
  | yes le ↦ omega (arith, tally-num l i le, num_le_length l i)
  | no gt ↦ let e : i ≡ 17 = omega arith in rw e (omega (arith, tally_larger l, count_le_length (ltb 16) l))
]

-- one more symbol: its entry grows by one
larger_back : (l : List ℕ) (x : ℕ) → count (ltb 16) (l ++ (x ∷ [])) ≡ count (ltb 16) l + bit (ltb 16 x)
larger_back l x = omega (arith, count_append (ltb 16) l (x ∷ []), count_cons (ltb 16) x [], count_nil (ltb 16))

num_back : (l : List ℕ) (x v : ℕ) → num (l ++ (x ∷ [])) v ≡ num l v + bit (eqb v x)
num_back l x v = omega (arith, num_append l (x ∷ []) v, num_front x [] v, num_nil v)

module _ (l : List ℕ) (x : ℕ) where
  abbrev more : List ℕ
  more = set (tally l) (min x 17) (get_or (tally l) (min x 17) 0 + 1)

  grown : (i : ℕ) → i ≡ min x 17 → get_or more i 0 ≡ get_or (tally l) i 0 + 1
  grown i e = rw e (get_or-set_same (tally l) (min x 17) (get_or (tally l) (min x 17) 0 + 1) 0 (omega (arith, tally-length l)))

  kept : (i : ℕ) → i ≢ min x 17 → get_or more i 0 ≡ get_or (tally l) i 0
  kept i ne = get_or-set_other (tally l) (min x 17) i (get_or (tally l) (min x 17) 0 + 1) 0 ne

  low : (i : ℕ) → i ≤ 16 → get_or more i 0 ≡ get_or (tally (l ++ (x ∷ []))) i 0
  low i le = elim (ℕ_discrete i x) [
    | yes e ↦
        let b : bit (eqb i x) ≡ 1 = rw (eq-eqb i x e) in
        omega (arith, grown i (omega arith), tally-num l i le, tally-num (l ++ (x ∷ [])) i le, num_back l x i)
    | no ne ↦
        let b : bit (eqb i x) ≡ 0 = rw (ne_eqb i x ne) in
        omega (arith, kept i (λ e. ne (omega arith)), tally-num l i le, tally-num (l ++ (x ∷ [])) i le, num_back l x i)
  ]

  high : get_or more 17 0 ≡ get_or (tally (l ++ (x ∷ []))) 17 0
  high = elim (dec_le x 16) [
    | yes le ↦
        let b : bit (ltb 16 x) ≡ 0 = rw (le-ltb 16 x le) in
        omega (arith, kept 17 (λ e. omega arith), tally_larger l, tally_larger (l ++ (x ∷ [])), larger_back l x)
    | no gt ↦
        let b : bit (ltb 16 x) ≡ 1 = rw (lt-ltb 16 x (omega arith)) in
        omega (arith, grown 17 (omega arith), tally_larger l, tally_larger (l ++ (x ∷ [])), larger_back l x)
  ]

  pub tally_more : set (tally l) (min x 17) (get_or (tally l) (min x 17) 0 + 1) ≡ tally (l ++ (x ∷ []))
  tally_more = ext_get_or 0 more (tally (l ++ (x ∷ [])))
      (length-set (tally l) (min x 17) (get_or (tally l) (min x 17) 0 + 1) ∙ tally-length l ∙ sym (tally-length (l ++ (x ∷ []))))
      (λ i lt. elim (dec_le i 16) [
        | yes le ↦ low i le
        | no gt ↦
            let b : i < 18 = omega (arith, length-set (tally l) (min x 17) (get_or (tally l) (min x 17) 0 + 1), tally-length l) in
            let e : i ≡ 17 = omega arith in
            rw e high
      ])
