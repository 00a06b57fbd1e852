-- Laws of a window's symbols: which occur and how often, how many places hold a smaller one (`below`), how many different ones
-- are smaller (`height`) and how many there are in all (`different`). Assumes nothing.
use mathlib.Core.Bool.{true, false}
use mathlib.Core.List.Memᴰ
use mathlib.Core.List.Memᴰ.{head}
use mathlib.Core.List.Memᴰ.{tail}
use mathlib.Core.List.{List, [], ◌∷◌, ◌++◌, map}
use mathlib.Core.Logic.Dec
use mathlib.Core.Logic.{◌⊎◌, inl, inr, ⊎_elim, ◌↔◌, ◌≢◌}
use mathlib.Core.Path.{◌≡◌, refl, ap, ◌∙◌}
use Prim.Native.Nat.{ℕ, zero, suc, max, ◌+◌, ◌≤◌, ◌<◌}
use native.Mathlib.Omega.{arith}
use native.Mathlib.Decide.{dec_lt, dec_le, ℕ_discrete, le_ind}
use lib.Dec.{ltb, eqb}
use lib.ListN.{length}
use borrow.Author.Tests.{ltb-true, ltb-false, eqb-true, lt-ltb, le-ltb, eq-eqb, ne_eqb}
use Rattle.weak_orders.specs.Says.{Says}
use Rattle.weak_orders.specs.Window.{range, num, occurs, different, bound, below, height}
use Rattle.weak_orders.proofs.Lists.{count_nil, count_cons, count_append, count_le_length, count_cong, count_map, count_none}
use Rattle.weak_orders.proofs.Lists.{count-pos, count_find, of_range}
use Rattle.weak_orders.proofs.Lists.{count-range}
use Rattle.weak_orders.proofs.Tests.{◌∈◌, here, there, nowhere, split_mem, by_test, bit, bit≤1, says?, says_as, says_lt}

-- ---- occurrences

pub num_nil : (v : ℕ) → num [] v ≡ 0
unfolding num
num_nil v = refl

pub num_front : (x : ℕ) (w : List ℕ) (v : ℕ) → num (x ∷ w) v ≡ bit (eqb v x) + num w v
unfolding num
num_front x w v = count_cons (eqb v) x w

pub num_append : (w u : List ℕ) (v : ℕ) → num (w ++ u) v ≡ num w v + num u v
unfolding num
num_append w u v = count_append (eqb v) w u

pub num_le_length : (w : List ℕ) (v : ℕ) → num w v ≤ length w
unfolding num
num_le_length w v = count_le_length (eqb v) w

-- a symbol in front counts for itself alone
pub num-same : (x : ℕ) (w : List ℕ) → num (x ∷ w) x ≡ suc (num w x)
num-same x w = let e : bit (eqb x x) ≡ 1 = rw (eq-eqb x x refl) in omega (arith, num_front x w x)

pub num-other : (x : ℕ) (w : List ℕ) (v : ℕ) → v ≢ x → num (x ∷ w) v ≡ num w v
num-other x w v ne = let e : bit (eqb v x) ≡ 0 = rw (ne_eqb v x ne) in omega (arith, num_front x w v)

-- what occurs is a member
pub num_mem : (w : List ℕ) (v : ℕ) → (0 < num w v) ↔ (v ∈ w)
unfolding num
num_mem w v = (
  λ h. let (x, m, t) = count_find (eqb v) w h in Memᴰ.cast (eqb-true v x t) m,
  λ m. count-pos (eqb v) m (eq-eqb v v refl),
)

pub says_occurs : (w : List ℕ) (v : ℕ) → Says (occurs w v) (v ∈ w)
unfolding occurs
says_occurs w v = says_as (says_lt 0 (num w v)) (num_mem w v).0 (num_mem w v).1

pub occurs_in : {w : List ℕ} {v : ℕ} → v ∈ w → occurs w v ≡ true
occurs_in {w} {v} m = (says_occurs w v).of m

pub in_occurs : (w : List ℕ) (v : ℕ) → occurs w v ≡ true → v ∈ w
in_occurs w v o = (says_occurs w v).to o

pub mem? : (v : ℕ) (w : List ℕ) → Dec (v ∈ w)
mem? v w = says? (says_occurs w v)

-- ---- how many places hold a smaller symbol

pub below_front : (x : ℕ) (w : List ℕ) (v : ℕ) → below (x ∷ w) v ≡ bit (ltb x v) + below w v
unfolding below
below_front x w v = count_cons (λ x. ltb x v) x w

pub below_less : (x : ℕ) (w : List ℕ) (v : ℕ) → x < v → below (x ∷ w) v ≡ suc (below w v)
below_less x w v lt = let e : bit (ltb x v) ≡ 1 = rw (lt-ltb x v lt) in omega (arith, below_front x w v)

pub below_more : (x : ℕ) (w : List ℕ) (v : ℕ) → v ≤ x → below (x ∷ w) v ≡ below w v
below_more x w v le = let e : bit (ltb x v) ≡ 0 = rw (le-ltb x v le) in omega (arith, below_front x w v)

pub below_back : (w : List ℕ) (x v : ℕ) → below (w ++ (x ∷ [])) v ≡ below w v + bit (ltb x v)
unfolding below
below_back w x v = omega (
  arith,
  count_append (λ x. ltb x v) w (x ∷ []),
  count_cons (λ x. ltb x v) x [],
  count_nil (λ x. ltb x v),
)

pub below_le_length : (w : List ℕ) (v : ℕ) → below w v ≤ length w
unfolding below
below_le_length w v = count_le_length (λ x. ltb x v) w

-- smaller than v + 1: smaller than v, or v
bit_suc : (x v : ℕ) → bit (ltb x (suc v)) ≡ bit (ltb x v) + bit (eqb v x)
bit_suc x v = elim (ℕ_discrete v x) [
  | yes e ↦ rw (lt-ltb x (suc v) (omega arith), le-ltb x v (omega arith), eq-eqb v x e)
  | no ne ↦ elim (dec_lt x v) [
    | yes l ↦ rw (lt-ltb x (suc v) (omega arith), lt-ltb x v l, ne_eqb v x ne)
    | no l ↦ rw (le-ltb x (suc v) (omega arith), le-ltb x v (omega arith), ne_eqb v x ne)
  ]
]

pub below_suc : (w : List ℕ) (v : ℕ) → below w (suc v) ≡ below w v + num w v
unfolding below num
below_suc [] v = refl
below_suc (x ∷ w) v = omega (arith, below_front x w (suc v), below_front x w v, num_front x w v, bit_suc x v, below_suc w v)

pub below_zero : (w : List ℕ) → below w 0 ≡ 0
unfolding below
below_zero w = count_none (λ x. ltb x 0) w (λ x m. le-ltb x 0 (omega arith))

pub below_mono : (w : List ℕ) (u v : ℕ) → u ≤ v → below w u ≤ below w v
below_mono w u v h = le_ind (λ v. below w u ≤ below w v) (omega arith) (λ v l i. omega (arith, below_suc w v)) v h

-- a symbol of w has fewer below it than what is greater
pub below_strict : (w : List ℕ) (u v : ℕ) → occurs w u ≡ true → u < v → below w u < below w v
below_strict w u v o h = omega (arith, below_suc w u, (num_mem w u).1 (in_occurs w u o), below_mono w (suc u) v h)

-- where no symbol lies from u to v, as many are below v as below u
pub below-flat : (w : List ℕ) (u v : ℕ) → u ≤ v → ((x : ℕ) → x ∈ w → u ≤ x → v ≤ x) → below w v ≡ below w u
below-flat w u zero le none = let e : u ≡ 0 = omega arith in rw e
below-flat w u (suc v) le none = elim (dec_lt v u) [
  | yes lt ↦ let e : u ≡ suc v = omega arith in rw e
  | no ge ↦
      let absent : ¬ (0 < num w v) = λ h. omega (arith, none v ((num_mem w v).0 h) (omega arith)) in
      omega (arith, below_suc w v, below-flat w u v (omega arith) (λ x m l. omega (arith, none x m l)))
]

-- every place holds a smaller symbol just where each symbol is smaller
pub below_all : (w : List ℕ) (v : ℕ) → (below w v ≡ length w) ↔ ((x : ℕ) → x ∈ w → x < v)
below_all w v = (
  λ e x m. elim (dec_lt x v) [
    | yes lt ↦ lt
    | no ge ↦ absurd (omega (arith, below_mono w v x (omega arith), below_suc w x, (num_mem w x).1 m, below_le_length w (suc x)))
  ],
  full w,
)
  where
    full : (w : List ℕ) → ((x : ℕ) → x ∈ w → x < v) → below w v ≡ length w
    full [] h = unfold below in refl
    full (x ∷ w) h = omega (arith, below_less x w v (h x here), full w (λ y m. h y (there m)))

-- what keeps the order of the symbols to x keeps the number below x
pub below-map : (f : ℕ → ℕ) (w : List ℕ) (x : ℕ) → ((y : ℕ) → y ∈ w → ltb (f y) (f x) ≡ ltb y x) → below (map f w) (f x) ≡ below w x
unfolding below
below-map f w x h = count_map (λ y. ltb y (f x)) f w ∙ count_cong (λ y. ltb (f y) (f x)) (λ y. ltb y x) w h

pub ltb-same : (a b c d : ℕ) → (a < b → c < d) → (b ≤ a → d ≤ c) → ltb c d ≡ ltb a b
ltb-same a b c d f g = by_test (ltb a b) (λ e. rw e (lt-ltb c d (f (ltb-true a b e)))) (λ e. rw e (le-ltb c d (g (ltb-false a b e))))

-- ---- the least symbol from a number on

-- a symbol from u on that does not stand below v
not_below : (u v y x : ℕ) → ¬ ((u ≤ y) × (y < v)) → x ≡ y → u ≤ x → v ≤ x
not_below u v y x n e l = elim (dec_lt x v) [ yes lt ↦ absurd (n (omega arith)) | no ge ↦ omega arith ]

-- some symbol from u on stands below v, or none does
find : (w : List ℕ) (u v : ℕ) → ((x : ℕ) × (x ∈ w) × (u ≤ x) × (x < v)) ⊎ ((x : ℕ) → x ∈ w → u ≤ x → v ≤ x)
find [] u v = inr (λ x m. nowhere m)
find (y ∷ b) u v = ⊎_elim
    (λ (x, m, l, lt). inl (x, there m, l, lt))
    (λ rest. elim (Dec.and (dec_le u y) (dec_lt y v)) [
      | yes (l, lt) ↦ inl (y, here, l, lt)
      | no n ↦ inr (λ x m l. split_mem (λ e. not_below u v y x n e l) (λ m'. rest x m' l) m)
    ])
    (find b u v)

abbrev pub LeastFrom : List ℕ → ℕ → Type 0
LeastFrom w u = (x : ℕ) × (x ∈ w) × (u ≤ x) × ((y : ℕ) → y ∈ w → u ≤ y → x ≤ y)

descend : (d : ℕ) (w : List ℕ) (u v : ℕ) → v < d → v ∈ w → u ≤ v → LeastFrom w u
descend zero w u v lt m le = absurd (omega arith)
descend (suc d) w u v lt m le = ⊎_elim (λ (x, m', l, lt'). descend d w u x (omega arith) m' l) (λ none. (v, m, le, none)) (find w u v)

pub least_from : (w : List ℕ) (u v : ℕ) → v ∈ w → u ≤ v → LeastFrom w u
least_from w u v = descend (suc v) w u v (omega arith)

-- ---- how many different symbols are smaller

pub height_zero : (w : List ℕ) → height w 0 ≡ 0
unfolding height
height_zero w = refl

pub height_suc : (w : List ℕ) (v : ℕ) → height w (suc v) ≡ height w v + bit (occurs w v)
unfolding height
height_suc w v = count-range (occurs w) v

pub height_cong : (w w' : List ℕ) (v : ℕ) → ((u : ℕ) → u < v → occurs w u ≡ occurs w' u) → height w v ≡ height w' v
unfolding height
height_cong w w' v h = count_cong (occurs w) (occurs w') (range v) (λ u m. h u (of_range v m))

module _ (w : List ℕ) where
  -- one step, where the test is known
  pub height-step : (v : ℕ) → occurs w v ≡ true → height w (suc v) ≡ suc (height w v)
  height-step v o = let e : bit (occurs w v) ≡ 1 = rw o in omega (arith, height_suc w v)

  pub height_skip : (v : ℕ) → occurs w v ≡ false → height w (suc v) ≡ height w v
  height_skip v o = let e : bit (occurs w v) ≡ 0 = rw o in omega (arith, height_suc w v)

  pub height_mono : (u v : ℕ) → u ≤ v → height w u ≤ height w v
  height_mono u v h = le_ind (λ v. height w u ≤ height w v) (omega arith) (λ v l i. omega (arith, height_suc w v)) v h

  pub height_strict : (u v : ℕ) → occurs w u ≡ true → u < v → height w u < height w v
  height_strict u v o h = omega (arith, height-step u o, height_mono (suc u) v h)

  pub height_le : (v : ℕ) → height w v ≤ v
  height_le zero = omega (arith, height_zero w)
  height_le (suc v) = omega (arith, height_suc w v, bit≤1 (occurs w v), height_le v)

  -- where every smaller number occurs, and only there, the height of v is v
  pub height_full : (v : ℕ) → ((u : ℕ) → u < v → occurs w u ≡ true) → height w v ≡ v
  height_full zero h = height_zero w
  height_full (suc v) h = omega (arith, height-step v (h v (omega arith)), height_full v (λ u l. h u (omega arith)))

  pub full_height : (v : ℕ) → height w v ≡ v → (u : ℕ) → u < v → occurs w u ≡ true
  full_height zero e u l = absurd (omega arith)
  full_height (suc v) e u l = by_test (occurs w v)
      (λ o. elim (dec_lt u v) [
        | yes l' ↦ full_height v (omega (arith, height-step v o)) u l'
        | no l' ↦ let e' : u ≡ v = omega arith in cc
      ])
      (λ o. absurd (omega (arith, height_skip v o, height_le v)))

  -- where fewer than v different symbols are smaller than v, one of these is missing
  pub height_gap : (v : ℕ) → height w v < v → (u : ℕ) × (u < v) × (occurs w u ≡ false)
  height_gap zero h = absurd (omega arith)
  height_gap (suc v) h = by_test (occurs w v)
      (λ o. let (u, l, e) = height_gap v (omega (arith, height-step v o)) in (u, omega arith, e))
      (λ o. (v, omega arith, o))

  -- nothing occurs from u on, so no height is gained
  pub height_past : (u v : ℕ) → u ≤ v → ((x : ℕ) → u ≤ x → x < v → occurs w x ≡ false) → height w v ≡ height w u
  height_past u zero h no' = let e : u ≡ 0 = omega arith in cc
  height_past u (suc v) h no' = elim (dec_le u v) [
    | yes l ↦ height_skip v (no' v l (omega arith)) ∙ height_past u v l (λ x a b. no' x a (omega arith))
    | no l ↦ let e : u ≡ suc v = omega arith in cc
  ]

  -- each smaller height is that of a smaller symbol
  pub height_find : (v u : ℕ) → u < height w v → (y : ℕ) × (y < v) × (occurs w y ≡ true) × (height w y ≡ u)
  height_find zero u h = absurd (omega (arith, height_zero w))
  height_find (suc v) u h = elim (dec_lt u (height w v)) [
    | yes l ↦ let (y, l', o, e) = height_find v u l in (y, omega arith, o, e)
    | no l ↦ by_test (occurs w v)
        (λ o. (v, omega arith, o, omega (arith, height-step v o)))
        (λ o. absurd (omega (arith, height_skip v o)))
  ]

-- w' holds the symbols of w, and x
pub record Added (w : List ℕ) (x : ℕ) (w' : List ℕ) : Type 0 where
  pub new : occurs w' x ≡ true
  pub old : (u : ℕ) → u ≢ x → occurs w' u ≡ occurs w u

same-occurs : (w w' : List ℕ) (u : ℕ) → num w u ≡ num w' u → occurs w u ≡ occurs w' u
unfolding occurs
same-occurs w w' u e = ap (ltb 0) e

pub added_front : (w : List ℕ) (x : ℕ) → Added w x (x ∷ w)
added_front w x = record { new = occurs_in here; old = λ u ne. same-occurs (x ∷ w) w u (num-other x w u ne) }

pub added_middle : (v w : List ℕ) (x : ℕ) → Added (v ++ w) x (v ++ (x ∷ w))
added_middle v w x = record {
  new = occurs_in (Memᴰ.append_right v here);
  old = λ u ne. same-occurs (v ++ (x ∷ w)) (v ++ w) u (omega (arith, num_append v (x ∷ w) u, num_append v w u, num-other x w u ne));
}

pub added_back : (w : List ℕ) (x : ℕ) → Added w x (w ++ (x ∷ []))
added_back w x = record {
  new = occurs_in (Memᴰ.append_right w here);
  old = λ u ne. same-occurs (w ++ (x ∷ [])) w u (omega (arith, num_append w (x ∷ []) u, num-other x [] u ne, num_nil u));
}

module _ {w w' : List ℕ} {x : ℕ} (A : Added w x w') where
  pub height_above : (v : ℕ) → v ≤ x → height w' v ≡ height w v
  height_above v h = height_cong w' w v (λ u l. A.old u (omega arith))

  pub height_old : (v : ℕ) → occurs w x ≡ true → height w' v ≡ height w v
  height_old v o = height_cong w' w v (λ u l. elim (ℕ_discrete u x) [ yes e ↦ cc A.new | no ne ↦ A.old u ne ])

  pub height_new : (v : ℕ) → occurs w x ≡ false → x < v → height w' v ≡ suc (height w v)
  height_new v o h = le_ind (λ v. height w' v ≡ suc (height w v))
      (omega (arith, height-step w' x A.new, height_skip w x o, height_above x (omega arith)))
      (λ v l i. let e : bit (occurs w' v) ≡ bit (occurs w v) = rw (A.old v (omega arith)) in omega (arith, height_suc w v, height_suc w' v))
      v h

-- ---- how many different symbols there are

pub bound_in : {x : ℕ} {w : List ℕ} → x ∈ w → x < bound w
unfolding bound
bound_in (head e) = omega arith
bound_in (tail m) = omega (arith, bound_in m)

pub bound_find : (w : List ℕ) (u : ℕ) → u < bound w → (x : ℕ) × (x ∈ w) × (u ≤ x)
unfolding bound
bound_find [] u h = absurd (omega arith)
bound_find (x ∷ w) u h = elim (dec_lt u (bound w)) [
  | yes l ↦ let (y, m, le) = bound_find w u l in (y, there m, le)
  | no l ↦ (x, here, omega arith)
]

-- all symbols are below it, and it is the least such number
pub bound_le : (n : ℕ) (w : List ℕ) → ((x : ℕ) → x ∈ w → x < n) → bound w ≤ n
unfolding bound
bound_le n [] h = omega arith
bound_le n (x ∷ w) h = omega (arith, h x here, bound_le n w (λ y m. h y (there m)))

pub bound_append : (v w : List ℕ) → bound (v ++ w) ≡ max (bound v) (bound w)
unfolding bound
bound_append [] w = omega arith
bound_append (x ∷ v) w = omega (arith, bound_append v w)

pub bound_middle : (v w : List ℕ) (x : ℕ) → bound (v ++ (x ∷ w)) ≡ max (bound (v ++ w)) (suc x)
unfolding bound
bound_middle v w x = omega (arith, bound_append v (x ∷ w), bound_append v w)

pub bound_back : (w : List ℕ) (x : ℕ) → bound (w ++ (x ∷ [])) ≡ max (bound w) (suc x)
unfolding bound
bound_back w x = omega (arith, bound_append w (x ∷ []))

-- the heights below any bound count the different symbols
pub different-below : (w : List ℕ) (n : ℕ) → bound w ≤ n → height w n ≡ different w
unfolding bound different height occurs num
different-below [] n h = count_none (occurs []) (range n) (λ u m. refl)
different-below (x ∷ w) n h = by_test (occurs w x)
    (λ o. rw o (height_old (added_front w x) n o ∙ different-below w n (omega arith)))
    (λ o. rw o (height_new (added_front w x) n o (omega arith) ∙ ap suc (different-below w n (omega arith))))

pub different≤bound : (w : List ℕ) → different w ≤ bound w
different≤bound w = omega (arith, different-below w (bound w) (omega arith), height_le w (bound w))

pub different≤length : (w : List ℕ) → different w ≤ length w
unfolding different
different≤length [] = omega arith
different≤length (x ∷ w) = by_test (occurs w x) (λ o. rw o (omega (arith, different≤length w))) (λ o. rw o (omega (arith, different≤length w)))

-- one symbol more, wherever it is put: as many different ones as before, or one more
module _ {w w' : List ℕ} {x : ℕ} (A : Added w x w') (b : bound w' ≡ max (bound w) (suc x)) where
  pub different-same : occurs w x ≡ true → different w' ≡ different w
  different-same o = omega (
    arith,
    different-below w' (bound w') (omega arith),
    height_old A (bound w') o,
    different-below w (bound w') (omega arith),
  )

  pub different_more : occurs w x ≡ false → different w' ≡ suc (different w)
  different_more o = omega (
    arith,
    different-below w' (bound w') (omega arith),
    height_new A (bound w') o (omega arith),
    different-below w (bound w') (omega arith),
  )

-- x is put before w, and behind it
module _ (w : List ℕ) (x : ℕ) where
  bound_front : bound (x ∷ w) ≡ max (bound w) (suc x)
  unfolding bound
  bound_front = omega arith

  pub different_again : occurs w x ≡ true → different (x ∷ w) ≡ different w
  different_again = different-same (added_front w x) bound_front

  pub different-fresh : occurs w x ≡ false → different (x ∷ w) ≡ suc (different w)
  different-fresh = different_more (added_front w x) bound_front

  pub different_old : occurs w x ≡ true → different (w ++ (x ∷ [])) ≡ different w
  different_old = different-same (added_back w x) (bound_back w x)

  pub different_new : occurs w x ≡ false → different (w ++ (x ∷ [])) ≡ suc (different w)
  different_new = different_more (added_back w x) (bound_back w x)
