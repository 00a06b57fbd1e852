-- The search for the rotation of a window that comes first in an order, and what it tells of the period, in either direction of comparison.
-- Assumes nothing.
use mathlib.Core.Bool.{Bool, true, false, cond}
use mathlib.Core.List.{List, [], ◌∷◌, append-nil}
use mathlib.Core.Logic.{⊎_elim}
use mathlib.Core.Path.{◌≡◌, refl, sym, ap, ◌∙◌}
use Prim.Native.Nat.{ℕ, zero, suc, max, ◌+◌, ◌-◌, ◌*◌, ◌/◌, ◌%◌, ◌<◌, ◌≤◌}
use native.Mathlib.Nat.{mod-lt, suc-mul, zero-mul}
use native.Mathlib.Omega.{arith}
use native.Mathlib.Decide.{dec_lt}
use lib.ListN.{length}
use Rattle.weak_orders.proofs.Tests.{by_test, not_true→false, false→not_true}
use Rattle.rotations.specs.Order.{lex_le}
use Rattle.rotations.specs.Rotation.{rotation, rotations, is_greatest, start, start_greatest, period, least_rotation, greatest_rotation, own_standing}
use Rattle.rotations.specs.declared.Rotation.{Rotation}
use mathlib.Core.Logic.{◌≢◌}
use Rattle.std.specs.declared.cmp.Ordering.{Ordering}
use Rattle.std.specs.declared.cmp.Ordering.TheVariants.{Less, Equal, Greater}
use Rattle.std.specs.Ordering.{is_gt}
use Rattle.std.specs.Prelude.{Some, None}
use Rattle.rotations.proofs.Compared.{Told}
use Rattle.std.specs.Option.{is_some}
use Rattle.rotations.proofs.Orders.{TotalOrder, lex_ge, upward, downward}
use Rattle.rotations.proofs.Periods.{returns, repeat, reduced, multiple_apart, whole}
use Rattle.rotations.proofs.Returns.{Returns}
use Rattle.rotations.proofs.Rotations.{turn, turned_rotation, index_of, says_greatest, StartBy, start_unique}
use Rattle.rotations.proofs.Rotations.{start_first, greatest_first}

-- of the first j rotations of w that from m comes first, m is its first index, and none of them behind m is the same
pub record First (le : List ℕ → List ℕ → Bool) (w : List ℕ) (m j : ℕ) : Type 0 where
  pub within : m < j
  pub least : (k : ℕ) → k < j → le (rotation w m) (rotation w k) ≡ true
  pub first : (k : ℕ) → k < m → ¬ (le (rotation w k) (rotation w m) ≡ true)
  pub once : (k : ℕ) → m < k → k < j → ¬ (rotation w k ≡ rotation w m)

module _ {le : List ℕ → List ℕ → Bool} (order : TotalOrder le) (w : List ℕ) where
  pub first_one : First le w 0 1
  first_one = record {
    within = omega arith;
    least = λ k lt. let e : k ≡ 0 = omega arith in rw e (order.reflexive (rotation w 0));
    first = λ k lt. absurd (omega arith);
    once = λ k l l'. absurd (omega arith);
  }

  -- of two strings of which one does not come first, the other does
  other_first : (u v : List ℕ) → le v u ≡ false → le u v ≡ true
  other_first u v f = ⊎_elim (λ t. t) (λ t. absurd (false→not_true _ f t)) (order.total u v)

  -- the next rotation comes behind it, or before
  pub first_stays : (m j : ℕ) → First le w m j → le (rotation w j) (rotation w m) ≡ false → First le w m (j + 1)
  first_stays m j S f = record {
    within = omega (arith, S.within);
    least = λ k lt. elim (dec_lt k j) [
      | yes l ↦ S.least k l
      | no l ↦ let e : k ≡ j = omega arith in rw e (other_first (rotation w m) (rotation w j) f)
    ];
    first = S.first;
    once = λ k l lt. elim (dec_lt k j) [
      | yes l' ↦ S.once k l l'
      | no l' ↦ let e : k ≡ j = omega arith in
          rw e (λ same. false→not_true _ f (rw same (order.reflexive (rotation w m))))
    ];
  }

  pub first_moves : (m j : ℕ) → First le w m j → le (rotation w m) (rotation w j) ≡ false → First le w j (j + 1)
  first_moves m j S f =
      let worse : ¬ (le (rotation w m) (rotation w j) ≡ true) = false→not_true _ f in
      let better = other_first (rotation w j) (rotation w m) f in
      record {
        within = omega arith;
        least = λ k lt. elim (dec_lt k j) [
          | yes l ↦ order.transitive (rotation w j) (rotation w m) (rotation w k) better (S.least k l)
          | no l ↦ let e : k ≡ j = omega arith in rw e (order.reflexive (rotation w j))
        ];
        first = λ k lt t. worse (order.transitive (rotation w m) (rotation w k) (rotation w j) (S.least k lt) t);
        once = λ k l l'. absurd (omega arith);
      }

-- more than one whole part is two of them
twice : (q d n : ℕ) → n ≡ q * d → d < n → d + d ≤ n
twice zero d n e lt = absurd (omega (arith, zero-mul d))
twice (suc zero) d n e lt = absurd (omega (arith, suc-mul 0 d, zero-mul d))
twice (suc (suc q)) d n e lt = omega (arith, suc-mul (suc q) d, suc-mul q d)

-- a positive multiple of d is at least d
once_or_more : (q d n : ℕ) → n ≡ q * d → 0 < n → d ≤ n
once_or_more zero d n e lt = absurd (omega (arith, zero-mul d))
once_or_more (suc q) d n e lt = omega (arith, suc-mul q d)

-- ---- the search stands at m, and has come to j

module _ {le : List ℕ → List ℕ → Bool} (order : TotalOrder le) (w : List ℕ) (m j : ℕ) (S : First le w m j) (room : j ≤ length w) where
  come_back : (period w ≤ length w) × Returns turn w (period w)
  come_back = returns w (omega (arith, S.within))

  abbrev short : period w ≤ length w
  short = come_back.0

  abbrev R : Returns turn w (period w)
  R = come_back.1

  -- no earlier index has the rotation, so m is below the period
  below-period : m < period w
  below-period = elim (dec_lt m (period w)) [
    | yes lt ↦ lt
    | no ge ↦
        let same = repeat w short R m (omega arith) (omega (arith, S.within)) in
        absurd (S.first (m - period w) (omega (arith, R.some)) (rw same (order.reflexive (rotation w m))))
  ]

  next : m + period w < length w → rotation w (m + period w) ≡ rotation w m
  next lt =
      let e : m + period w - period w ≡ m = omega arith in
      sym (repeat w short R (m + period w) (omega arith) lt) ∙ ap (rotation w) e

  -- all rotations have been compared, and none was the same: all are different
  pub none_again : j ≡ length w → length w ≡ period w
  none_again all = elim (dec_lt (period w) (length w)) [
    | yes lt ↦
        let two = twice (length w / period w) (period w) (length w) (whole w short R) lt in
        let l : m + period w < length w = omega (arith, below-period) in
        absurd (S.once (m + period w) (omega (arith, R.some)) (omega arith) (next l))
    | no ge ↦ omega (arith, short)
  ]

  -- the rotation from j is the first that is the same
  module _ (lt : j < length w) (e : rotation w j ≡ rotation w m) where
    far : period w ≤ j - m
    far =
        let whole-periods = multiple_apart w short R m j (omega (arith, S.within)) lt (sym e) in
        once_or_more ((j - m) / period w) (period w) (j - m) whole-periods (omega (arith, S.within))

    pub first_again : j - m ≡ period w
    first_again = elim (dec_lt (m + period w) j) [
      | yes l ↦ absurd (S.once (m + period w) (omega (arith, R.some)) l (next (omega arith)))
      | no ge ↦ omega (arith, S.within, far)
    ]

    -- then those behind have been compared too
    pub rest_compared : (k : ℕ) → k < length w → le (rotation w m) (rotation w k) ≡ true
    rest_compared k l =
        let small : k % period w < period w = mod-lt k R.some in
        rw (← reduced w short R k l) (S.least (k % period w) (omega (arith, far)))

-- where all have been compared, m is the start
all-compared : {le : List ℕ → List ℕ → Bool} (x : ℕ) (b : List ℕ) (m j : ℕ) → First le (x ∷ b) m j → j ≤ length (x ∷ b) →
    ((k : ℕ) → k < length (x ∷ b) → le (rotation (x ∷ b) m) (rotation (x ∷ b) k) ≡ true) → StartBy le (x ∷ b) m
all-compared x b m j S room all = record {
  inside = omega (arith, S.within);
  lowest = λ v c. let (k, lt, e) = index_of x b c in rw (← e) (all k lt);
  first = λ k lt low. elim (dec_lt k m) [
    | yes l ↦ absurd (S.first k l (low (rotation (x ∷ b) m) (turned_rotation (x ∷ b) m)))
    | no ge ↦ omega arith
  ];
}

-- ---- both directions

abbrev pub le_of : Bool → List ℕ → List ℕ → Bool
le_of true = lex_ge
le_of false = lex_le

pub order_of : (greatest : Bool) → TotalOrder (le_of greatest)
order_of true = downward
order_of false = upward

-- what the search is to find
abbrev pub Found : Bool → List ℕ → ℕ → ℕ → Type 0
Found greatest w s p = record { start = s; period = p } ≡ cond greatest (greatest_rotation w) (least_rotation w)

-- a rotation on the better side of the best comes before it in the order, and one on the other side comes behind
pub better_moves : (better : Ordering) (u v : List ℕ) → better ≢ Equal → Told u v better → le_of (is_gt better) v u ≡ false
better_moves Less u v ne told = told
better_moves Equal u v ne told = absurd (ne refl)
better_moves Greater u v ne told = told

pub worse_stays : (better place : Ordering) (u v : List ℕ) → better ≢ Equal → place ≢ Equal → place ≢ better → Told u v place →
    le_of (is_gt better) u v ≡ false
worse_stays Equal place u v ne some other told = absurd (ne refl)
worse_stays Less Less u v ne some other told = absurd (other refl)
worse_stays Less Equal u v ne some other told = absurd (some refl)
worse_stays Less Greater u v ne some other told = told
worse_stays Greater Less u v ne some other told = told
worse_stays Greater Equal u v ne some other told = absurd (some refl)
worse_stays Greater Greater u v ne some other told = absurd (other refl)

-- an index that comes first in the order, and the period
found : (greatest : Bool) (x : ℕ) (b : List ℕ) (m p : ℕ) → StartBy (le_of greatest) (x ∷ b) m → p ≡ period (x ∷ b) →
    Found greatest (x ∷ b) (m + 1) p
unfolding least_rotation greatest_rotation
found true x b m p S e =
    let (i, s, T) = greatest_first x b in
    let at : m + 1 ≡ start_greatest (x ∷ b) = omega (arith, start_unique (x ∷ b) m i S T) in
    rw (at, e)
found false x b m p S e =
    let (i, s, T) = start_first x b in
    let at : m + 1 ≡ start (x ∷ b) = omega (arith, start_unique (x ∷ b) m i S T) in
    rw (at, e)

-- the search meets the rotation again
pub found_again : (greatest : Bool) (w : List ℕ) (m j : ℕ) → First (le_of greatest) w m j →
    j < length w → rotation w j ≡ rotation w m → Found greatest w (m + 1) (j - m)
found_again greatest [] m j S lt e = absurd (omega arith)
found_again greatest (x ∷ b) m j S lt e =
    let room : j ≤ length (x ∷ b) = omega arith in
    let order = order_of greatest in
    found greatest x b m (j - m)
    (all-compared x b m j S room (rest_compared order (x ∷ b) m j S room lt e))
    (first_again order (x ∷ b) m j S room lt e)

-- the search comes to the end; of an empty window there is nothing to compare
pub found_once : (greatest : Bool) (w : List ℕ) (m j : ℕ) → First (le_of greatest) w m j →
    length w ≤ j → j ≤ max 1 (length w) → Found greatest w (m + 1) (length w)
unfolding least_rotation greatest_rotation
found_once greatest [] m j S le room = let e : m ≡ 0 = omega (arith, S.within) in rw e (nothing greatest)
  where
    nothing : (greatest : Bool) → Found greatest [] 1 0
    nothing true = refl
    nothing false = refl
found_once greatest (x ∷ b) m j S le room =
    let end : j ≡ length (x ∷ b) = omega arith in
    let inside : j ≤ length (x ∷ b) = omega arith in
    found greatest x b m (length (x ∷ b))
    (all-compared x b m j S inside (λ k lt. S.least k (omega arith)))
    (none_again (order_of greatest) (x ∷ b) m j S inside end)

-- ---- the window itself against its rotations

rotation_zero : (w : List ℕ) → rotation w 0 ≡ w
unfolding rotation
rotation_zero w = append-nil w

-- the search would stay at its first index: the window is greatest
pub own_greatest : (w : List ℕ) (p : ℕ) → Found true w 1 p → Some p ≡ own_standing w
unfolding own_standing greatest_rotation is_greatest rotations
own_greatest [] p e = ap (λ (r : Rotation). Some r.period) e
own_greatest (x ∷ b) p e =
    let (i, s, T) = greatest_first x b in
    let zero : i ≡ 0 = omega (arith, ap (λ (r : Rotation). r.start) e) in
    let own = rw (zero, rotation_zero (x ∷ b)) at T.lowest in
    rw ((says_greatest x b (x ∷ b)).of own) (ap (λ (r : Rotation). Some r.period) e)

-- it stands before one of them
pub own_behind : (w : List ℕ) (j : ℕ) → 1 ≤ length w → lex_le (rotation w j) (rotation w 0) ≡ false → None ≡ own_standing w
unfolding own_standing
own_behind [] j pos f = absurd (omega arith)
own_behind (x ∷ b) j pos f = rw (not_true→false _ (λ t.
    false→not_true _ f (rw (rotation_zero (x ∷ b)) ((says_greatest x b (x ∷ b)).to t _ (turned_rotation (x ∷ b) j)))))

-- which of the two it is, without the period
pub first_greatest : (w : List ℕ) → is_some (own_standing w) ≡ is_greatest w w
unfolding own_standing
first_greatest w = by_test (is_greatest w w) (λ t. rw t) (λ f. rw f)
