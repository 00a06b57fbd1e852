-- The two forms: ranks by a table of counts, heights by bits. Assumes nothing.
use mathlib.Core.Bool.{Bool, true, false, not, ◌&&◌}
use mathlib.Core.List.{List}
use mathlib.Core.Logic.{inl, inr, ⊎_elim}
use mathlib.Core.Path.{◌≡◌, sym, ap, ◌∙◌}
use Prim.Native.Nat.{ℕ, zero, suc, ◌+◌, ◌^◌, ◌<◌, ◌≤◌}
use native.Mathlib.Nat.{mod-eq_of_lt}
use native.Mathlib.Omega.{arith}
use native.Mathlib.Numerals.{add-one}
use native.Mathlib.Decide.{ℕ_discrete, dec_lt}
use lib.Bits.{bit_and}
use lib.Count.{ones, ones-le}
use lib.Dec.{eqb}
use lib.ListN.{length, take, get_or}
use lib.Seq.{length-take-le}
use Rattle.weak_orders.specs.Converted.{is_rank_window, is_height_window}
use Rattle.weak_orders.specs.Says.{Says}
use Rattle.weak_orders.specs.Tables.{tally, upto, is_rank_table, bits_of}
use Rattle.weak_orders.specs.Window.{below, different, bound, is_rank, is_height, is_length}
use Rattle.weak_orders.proofs.Bits.{ones-height, bits_low, low_bits, cleared, full}
use Rattle.weak_orders.proofs.HeightForm.{height_form, form_height, height_bound, height-below}
use Rattle.weak_orders.proofs.Lists.{says_below}
use Rattle.weak_orders.proofs.RankForm.{Rank, says_rank, rank_le_length}
use Rattle.weak_orders.proofs.Symbols.{num_mem, below_suc, below_zero, below_all, different-below, different≤bound}
use Rattle.weak_orders.proofs.Tallies.{tally-num}
use Rattle.weak_orders.proofs.Tests.{◌∈◌, not_true→false, false→not_true, says_as, says_itself, same_test, says_eq, says_le, says_and, says_or, says_not}

-- the first n of an array, n from 1 to 16
pub says_length : (n : ℕ) → Says (is_length n) ((1 ≤ n) × (n ≤ 16))
unfolding is_length
says_length n = says_and (says_le 1 n) (says_le n 16)

pub sized : (n : ℕ) → true ≡ is_length n → (1 ≤ n) × (n ≤ 16)
sized n t = (says_length n).to (sym t)

-- ---- ranks by a table

-- each symbol below n that the table has is one more than the number of places below it
abbrev pub Ranked : List ℕ → ℕ → Type 0
Ranked t n = (v : ℕ) → v < n → 0 < get_or t v 0 → v ≡ suc (upto t v)

-- this of the symbols up to n, in n places
abbrev pub RankTable : ℕ → List ℕ → Type 0
RankTable n t = (upto t (suc n) ≡ n) × Ranked t (suc n)

pub says_rank_table : (n : ℕ) (t : List ℕ) → Says (is_rank_table n t) (((1 ≤ n) × (n ≤ 16)) × RankTable n t)
unfolding is_rank_table
says_rank_table n t = says_and (says_length n) (says_and (says_eq (upto t (suc n)) n)
    (says_below (λ v. says_as (says_or (says_eq (get_or t v 0) 0) (says_eq v (suc (upto t v))))
    (λ h pos. ⊎_elim (λ z. absurd (omega arith)) (λ e. e) h)
    (λ h. elim (ℕ_discrete (get_or t v 0) 0) [ yes z ↦ inl z | no nz ↦ inr (h (omega (arith, nz))) ])) (suc n)))

-- one turn of the loop
module _ (t : List ℕ) (seen v : ℕ) (e : seen ≡ upto t v) where
  flag : Says (not (eqb (get_or t v 0) 0) && not (eqb v (seen + 1))) ((¬ (get_or t v 0 ≡ 0)) × (¬ (v ≡ seen + 1)))
  flag = says_and (says_not (says_eq (get_or t v 0) 0)) (says_not (says_eq v (seen + 1)))

  pub ranked_fails : (n : ℕ) → v < n → (not (eqb (get_or t v 0) 0) && not (eqb v (seen + 1))) ≡ true → ¬ Ranked t n
  ranked_fails n lt f h = let (a, b) = flag.to f in b (omega (arith, h v lt (omega (arith, a))))

  pub ranked_more : (not (eqb (get_or t v 0) 0) && not (eqb v (seen + 1))) ≡ false → Ranked t v → Ranked t (v + 1)
  ranked_more f h k lt pos = elim (dec_lt k v) [
    | yes l ↦ h k l pos
    | no l ↦
        let q : k ≡ v = omega arith in
        let pos' : 0 < get_or t v 0 = rw q at pos in
        elim (ℕ_discrete v (seen + 1)) [
          | yes s ↦ rw (q, ← e) (omega arith)
          | no ns ↦ absurd (false→not_true _ f (flag.of ((λ z. omega arith), ns)))
        ]
  ]

  pub upto_more : seen + get_or t v 0 ≡ upto t (v + 1)
  unfolding upto
  upto_more = rw (add-one, ← e)

-- the table of a list
module _ (u : List ℕ) where
  upto-below : (v : ℕ) → v ≤ 17 → upto (tally u) v ≡ below u v
  unfolding upto
  upto-below zero le = sym (below_zero u)
  upto-below (suc v) le = omega (arith, upto-below v (omega arith), below_suc u v, tally-num u v (omega arith))

  has : (v : ℕ) → v ≤ 16 → v ∈ u → 0 < get_or (tally u) v 0
  has v le m = omega (arith, tally-num u v le, (num_mem u v).1 m)

  of_has : (v : ℕ) → v ≤ 16 → 0 < get_or (tally u) v 0 → v ∈ u
  of_has v le p = (num_mem u v).0 (omega (arith, tally-num u v le))

  -- the symbols of a rank window are at most its length, so the table is read up to there
  module _ (n : ℕ) (l : length u ≡ n) (le : n ≤ 16) where
    table_rank : RankTable n (tally u) → Rank u
    table_rank (z, h) x m =
        let low = (below_all u (suc n)).0 (omega (arith, upto-below (suc n) (omega arith))) x m in
        omega (arith, h x low (has x (omega arith) m), upto-below x (omega arith))

    rank_table : Rank u → RankTable n (tally u)
    rank_table h = (
      omega (arith, upto-below (suc n) (omega arith), (below_all u (suc n)).1 (λ x m. omega (arith, rank_le_length u h x m))),
      λ v lt pos. omega (arith, h v (of_has v (omega arith) pos), upto-below v (omega arith)),
    )

-- ---- the bits of a list

module _ (u : List ℕ) where
  -- a symbol of 31 or more
  pub high_bits : length u ≤ 16 → 2 ^ 31 ≤ bits_of u → false ≡ is_height u
  high_bits l h = sym (not_true→false (is_height u) (λ t. omega (arith, bits_low u 31 (omega arith) (omega (arith, height_bound u t)))))

  -- else as many different symbols as the largest allows, just where there is no gap
  module _ (h : bits_of u < 2 ^ 31) where
    small : bound u ≤ 31
    small = low_bits u 31 (omega arith) h

    ones-different : ones (bits_of u) ≡ different u
    ones-different = ap ones (sym (mod-eq_of_lt h)) ∙ ones-height u 31 (omega arith) ∙ different-below u 31 small

    pub gap_height : eqb (bit_and (bits_of u) (bits_of u + 1)) 0 ≡ is_height u
    gap_height = same_test (says_eq _ 0) (record {
      to = λ t. full (bound u) (bits_of u) (bits_low u (bound u) small (omega arith)) (ones-different ∙ height_form u t);
      of = λ z. form_height u (omega (
        arith,
        ones-different,
        different≤bound u,
        low_bits u (ones (bits_of u)) (ones-le 31 (bits_of u) h) (cleared 31 (bits_of u) h z),
      ));
    })

-- ---- a window in an array

-- a window in form has no symbol above 16
module _ (w : List ℕ) (n : ℕ) (l : length w ≡ 16) (h : n ≤ 16) where
  size : length (take n w) ≡ n
  size = length-take-le n w (omega arith)

  pub rank_low : is_rank (take n w) ≡ true → (x : ℕ) → x ∈ take n w → x ≤ 16
  rank_low t x m = omega (arith, size, rank_le_length (take n w) ((says_rank (take n w)).to t) x m)

  pub height_low : is_height (take n w) ≡ true → (x : ℕ) → x ∈ take n w → x < n
  height_low t x m = omega (arith, size, height-below (take n w) t x m)

-- ranks by the table
pub rank_by_table : (w : List ℕ) (n : ℕ) → length w ≡ 16 → is_rank_table n (tally (take n w)) ≡ is_rank_window n w
unfolding is_rank_window
rank_by_table w n l = let u = take n w in same_test (says_rank_table n (tally u)) (says_as (says_and (says_length n) (says_rank u))
    (λ (b, h). (b, rank_table u n (size w n l b.1) b.1 h))
    (λ (b, h). (b, table_rank u n (size w n l b.1) b.1 h)))

-- heights by the bits, case by case
module _ (w : List ℕ) (n : ℕ) (l : length w ≡ 16) where
  pub no_length : is_length n ≡ false → false ≡ is_height_window n w
  unfolding is_height_window
  no_length e = rw e

  module _ (pos : 1 ≤ n) (h : n ≤ 16) where
    height_as : {r : Bool} → r ≡ is_height (take n w) → r ≡ is_height_window n w
    unfolding is_height_window
    height_as e = rw ((says_length n).of (pos, h)) e

    module _ (b : ℕ) (e : b ≡ bits_of (take n w)) where
      pub height_high : 2 ^ 31 ≤ b → false ≡ is_height_window n w
      height_high g = height_as (high_bits (take n w) (omega (arith, size w n l h)) (rw e at g))

      pub height_by_bits : b < 2 ^ 31 → eqb (bit_and b (b + 1)) 0 ≡ is_height_window n w
      height_by_bits g = height_as (rw e (gap_height (take n w) (rw e at g)))

-- and back: a window that passes the test
pub of_rank_window : (w : List ℕ) (n : ℕ) → is_rank_window n w ≡ true → (1 ≤ n) × (n ≤ 16) × (is_rank (take n w) ≡ true)
unfolding is_rank_window
of_rank_window w n t = let (a, b) = (says_and (says_length n) (says_itself (is_rank (take n w)))).to t in (a.0, a.1, b)

pub of_height_window : (w : List ℕ) (n : ℕ) → is_height_window n w ≡ true → (1 ≤ n) × (n ≤ 16) × (is_height (take n w) ≡ true)
unfolding is_height_window
of_height_window w n t = let (a, b) = (says_and (says_length n) (says_itself (is_height (take n w)))).to t in (a.0, a.1, b)
