-- What the code finds out of a pattern: byte by byte, and from its table of counts. Assumes nothing.
use mathlib.Core.Bool.{Bool, true, false, not}
use mathlib.Core.List.{List}
use mathlib.Core.Logic.{◌≢◌, ⊎_elim}
use mathlib.Core.Path.{◌≡◌, sym, ap, ◌∙◌}
use Prim.Native.Nat.{ℕ, zero, suc, ◌-◌, ◌≤◌, ◌<◌}
use native.Mathlib.Omega.{arith}
use native.Mathlib.Decide.{dec_lt, ℕ_discrete}
use native.Mathlib.Numerals.{add-one}
use lib.Dec.{ltb, eqb}
use lib.ListN.{length, take, get_or}
use lib.Seq.{length-take-le, get_or-take}
use borrow.Author.Tests.{ltb-false, eqb-true, eqb-false, eq-eqb, ne_eqb, lt-ltb, le-ltb}
use Rattle.std.specs.List.{list_all, count_by, position, position_or_len}
use Rattle.std.specs.Option.{unwrap_or}
use Rattle.std.proofs.lemmas.List.Sums.{count_by_more_yes, count_by_more_no, prefix_len-le-length, fails_before_first, passes_at_first}
use Rattle.weak_orders.specs.Tables.{tally}
use Rattle.weak_orders.specs.Window.{num, occurs, bound, height}
use Rattle.weak_orders.proofs.Lists.{count_cong}
use Rattle.weak_orders.proofs.Chains.{list_all-all}
use Rattle.weak_orders.proofs.Symbols.{says_occurs, in_occurs, height-step, height_skip, height_le, bound_in, bound_le, different-below}
use Rattle.weak_orders.proofs.Tallies.{tally-num, tally_larger}
use Rattle.weak_orders.proofs.Tests.{by_test, false→not_true, says_as, same_test}
use Rattle.ranking.proofs.Listing.{in_select, of_select}
use Rattle.filling.specs.Choice.{least_missing}
use Rattle.filling.specs.Pattern.{is_open, is_allowed, is_pattern, fixed, open_places, missing}
use Rattle.filling.proofs.Patterns.{says_pattern, fixed-below}
use Rattle.filling.proofs.Choices.{least_at}

-- ---- the test of each byte

pub allowed_all : (n : ℕ) (p : List ℕ) → n ≤ length p → is_pattern n (take n p) ≡ list_all (is_allowed n) (take n p)
unfolding is_pattern
allowed_all n p le = rw (eq-eqb (length (take n p)) n (length-take-le n p le)) (sym (list_all-all (is_allowed n) (take n p)))

-- ---- by the table

-- the first of n elements that passes, or n where none does
pub position_or : (q : ℕ → Bool) (l : List ℕ) (n : ℕ) → length l ≡ n → unwrap_or (position q l) n ≡ position_or_len q l
position_or q l n e = by_test (ltb (position_or_len q l) (length l))
    (λ t. rw t)
    (λ t. rw t (omega (arith, ltb-false (position_or_len q l) (length l) t, prefix_len-le-length (λ x. not (q x)) l)))

-- the heights up to the largest fixed one that are not fixed are the missing ones
pub gaps_missing : (p : List ℕ) → bound (fixed p) - height (fixed p) (bound (fixed p)) ≡ missing p
unfolding missing
gaps_missing p = rw (different-below (fixed p) (bound (fixed p)) (omega arith))

-- no fixed height is lost: of the heights below 255 a pattern has those that it fixes
occurs-fixed : (p : List ℕ) (v : ℕ) → v < 255 → occurs (fixed p) v ≡ occurs p v
unfolding fixed
occurs-fixed p v lt = same_test
    (says_as (says_occurs (fixed p) v)
    (λ m. (of_select (λ b. not (is_open b)) p m).0)
    (λ m. in_select (λ b. not (is_open b)) m (ap not (ne_eqb v 255 (λ e. omega arith)))))
    (says_occurs p v)

module _ (n : ℕ) (p : List ℕ) (few : n ≤ 16) (t : is_pattern n p ≡ true) (T : List ℕ) (table : T ≡ tally p) where
  -- the last entry counts the open places
  pub table_open : get_or T 17 0 ≡ open_places p
  unfolding open_places
  table_open = ap (λ l. get_or l 17 0) table ∙ tally_larger p ∙ count_cong (ltb 16) is_open p (λ b m. ⊎_elim
      (λ o. rw (eqb-true b 255 o))
      (λ lt. le-ltb 16 b (omega arith) ∙ sym (ne_eqb b 255 (λ e. omega arith)))
      (((says_pattern n p).to t).1 b m))

  entry : (v : ℕ) → v ≤ 16 → get_or T v 0 ≡ num p v
  entry v le = ap (λ l. get_or l v 0) table ∙ tally-num p v le

  -- an entry before it is 0 just where the height is not fixed
  none-fixed : (v : ℕ) → v ≤ 16 → get_or T v 0 ≡ 0 → occurs (fixed p) v ≡ false
  unfolding occurs
  none-fixed v le e = occurs-fixed p v (omega arith) ∙ le-ltb 0 (num p v) (omega (arith, entry v le))

  some-fixed : (v : ℕ) → v ≤ 16 → get_or T v 0 ≢ 0 → occurs (fixed p) v ≡ true
  unfolding occurs
  some-fixed v le ne =
      let some : ¬ (num p v ≡ 0) = λ e. ne (entry v le ∙ e) in
      occurs-fixed p v (omega arith) ∙ lt-ltb 0 (num p v) (omega arith)

  -- no height from v on is fixed
  pub bound_to : (v : ℕ) → ((u : ℕ) → v ≤ u → u < n → get_or T u 0 ≡ 0) → bound (fixed p) ≤ v
  bound_to v none = bound_le v (fixed p) (λ x m. elim (dec_lt x v) [
    | yes lt ↦ lt
    | no ge ↦
        let low = fixed-below n p t x m in
        absurd (false→not_true (occurs (fixed p) x) (none-fixed x (omega arith) (none x (omega arith) low)) ((says_occurs (fixed p) x).of m))
  ])

  -- and v is
  pub bound_past : (v : ℕ) → v < n → get_or T v 0 ≢ 0 → v < bound (fixed p)
  bound_past v lt ne = bound_in (in_occurs (fixed p) v (some-fixed v (omega arith) ne))

  -- the entries below v that are 0 are so many heights that are not fixed
  pub gaps_below : length T ≡ 18 → (v : ℕ) → v ≤ n → count_by (λ c. eqb c 0) (take v T) ≡ v - height (fixed p) v
  gaps_below long zero le = omega arith
  gaps_below long (suc v) le =
      let F = fixed p in
      let before = gaps_below long v (omega arith) in
      rw (← add-one v) (elim (ℕ_discrete (get_or T v 0) 0) [
        | yes z ↦ omega (
          arith,
          before,
          count_by_more_yes (λ c. eqb c 0) T v 0 (omega arith) (eq-eqb (get_or T v 0) 0 z),
          ap (height F) (add-one v),
          height_skip F v (none-fixed v (omega arith) z),
          height_le F v,
        )
        | no some ↦ omega (
          arith,
          before,
          count_by_more_no (λ c. eqb c 0) T v 0 (omega arith) (ne_eqb (get_or T v 0) 0 some),
          ap (height F) (add-one v),
          height-step F v (some-fixed v (omega arith) some),
        )
      ])

  -- the first entry that is 0 is the least height that is not fixed, or n where there is none
  pub first_gap : length T ≡ 18 → position_or_len (λ c. eqb c 0) (take n T) ≡ least_missing (fixed p)
  first_gap long =
      let q : ℕ → Bool = λ c. eqb c 0 in
      let l = take n T in
      let v = position_or_len q l in
      let size : length l ≡ n = length-take-le n T (omega arith) in
      let le : v ≤ n = omega (arith, prefix_len-le-length (λ x. not (q x)) l) in
      let low : (u : ℕ) → u < v → occurs (fixed p) u ≡ true = λ u lt.
      some-fixed u (omega arith) (λ z. eqb-false (get_or l u 0) 0 (fails_before_first q l u 0 lt) (get_or-take n T u 0 (omega arith) ∙ z)) in
      sym (least_at (fixed p) v low (elim (dec_lt v n) [
        | yes lt ↦ none-fixed v (omega arith) (sym (get_or-take n T v 0 lt) ∙ eqb-true (get_or l v 0) 0 (passes_at_first q l 0 (omega arith)))
        | no ge ↦ by_test (occurs (fixed p) v) (λ o. absurd (omega (arith, fixed-below n p t v (in_occurs (fixed p) v o)))) (λ o. o)
      ]))
