-- The height for the first open place of a pattern leaves room for the missing ones, and no smaller one does. Assumes nothing.
use mathlib.Core.Bool.{true, false, not}
use mathlib.Core.List.{List, ◌∷◌, ◌++◌}
use mathlib.Core.Path.{◌≡◌, refl, sym, ap, ◌∙◌}
use Prim.Native.Nat.{ℕ, suc, max, ◌-◌, ◌≤◌, ◌<◌}
use native.Mathlib.Omega.{arith}
use native.Mathlib.Decide.{dec_lt}
use borrow.Author.Tests.{not-true}
use Rattle.weak_orders.specs.Window.{range, occurs, different, bound}
use Rattle.weak_orders.proofs.Lists.{first_index_none, of_range, length-range, get_or_range}
use Rattle.weak_orders.proofs.Symbols.{in_occurs, height_gap, added_middle, bound_in, bound_middle, different-below, different≤bound}
use Rattle.weak_orders.proofs.Symbols.{different-same, different_more}
use Rattle.weak_orders.proofs.Tests.{by_test, bit, false→not_true}
use Rattle.filling.specs.Choice.{least_missing, choice}
use Rattle.filling.specs.Pattern.{is_open, fixed, open_places, missing}
use Rattle.filling.proofs.Chosen.{test, least_up_to, fixed-before, choice_spare, choice_tight}
use Rattle.filling.proofs.Patterns.{fixed_held, open_cons, open_append, fixed_append}

module _ (w : List ℕ) where
  pub least_missing_lem : different w < bound w → (least_missing w < bound w) × (occurs w (least_missing w) ≡ false)
  least_missing_lem h =
      let (u, lt, o) = height_gap w (bound w) (omega (arith, different-below w (bound w) (omega arith))) in
      let (le, t) = least_up_to w u lt o in
      let l : least_missing w < bound w = omega arith in
      (l, not-true (occurs w (least_missing w)) (ap (test w) (sym (get_or_range (bound w) (least_missing w) l)) ∙ t))

  below_least : (y : ℕ) → y < least_missing w → y < bound w → occurs w y ≡ true
  below_least y lt in-bound = by_test (occurs w y) (λ o. o) (λ o. absurd (omega (arith, least_up_to w y in-bound o)))

  -- where all below v are there and v is not, it is v
  pub least_at : (v : ℕ) → ((u : ℕ) → u < v → occurs w u ≡ true) → occurs w v ≡ false → least_missing w ≡ v
  unfolding least_missing
  least_at v low o = elim (dec_lt v (bound w)) [
    | yes lt ↦
        let (le, t) = least_up_to w v lt o in
        let no_less : ¬ (least_missing w < v) = λ l. false→not_true (test w (least_missing w)) (ap not (low (least_missing w) l))
        (ap (test w) (sym (get_or_range (bound w) (least_missing w) (omega arith))) ∙ t) in
        omega arith
    | no ge ↦
        let no_more : ¬ (bound w < v) = λ l. omega (arith, bound_in (in_occurs w (bound w) (low (bound w) l))) in
        let none = first_index_none (test w) (range (bound w)) (λ u m. ap not (low u (omega (arith, of_range (bound w) m)))) in
        omega (arith, none, length-range (bound w))
  ]

-- ---- a pattern with an open place between u and v, and the same with x there

module _ (u v : List ℕ) (b : ℕ) (o : is_open b ≡ true) where
  missing-before : missing (u ++ (b ∷ v)) ≡ bound (fixed u ++ fixed v) - different (fixed u ++ fixed v)
  unfolding missing
  missing-before = rw (fixed-before u v b o)

  module _ (x : ℕ) (h : is_open x ≡ false) where
    fixed-after : fixed (u ++ (x ∷ v)) ≡ fixed u ++ (x ∷ fixed v)
    fixed-after = fixed_append u (x ∷ v) ∙ ap (λ k. fixed u ++ k) (fixed_held x v h)

    one_less : open_places (u ++ (b ∷ v)) ≡ suc (open_places (u ++ (x ∷ v)))
    one_less =
        let one : bit (is_open b) ≡ 1 = rw o in
        let none : bit (is_open x) ≡ 0 = rw h in
        omega (arith, open_append u (b ∷ v), open_append u (x ∷ v), open_cons b v, open_cons x v)

    -- a height that is fixed already, and one that is not
    missing_held : occurs (fixed u ++ fixed v) x ≡ true →
        missing (u ++ (x ∷ v)) ≡ max (bound (fixed u ++ fixed v)) (suc x) - different (fixed u ++ fixed v)
    unfolding missing
    missing_held i = rw (fixed-after, bound_middle (fixed u) (fixed v) x, different-same (added_middle (fixed u) (fixed v) x) (bound_middle (fixed u) (fixed v) x) i)

    missing_new : occurs (fixed u ++ fixed v) x ≡ false →
        missing (u ++ (x ∷ v)) ≡ max (bound (fixed u ++ fixed v)) (suc x) - suc (different (fixed u ++ fixed v))
    unfolding missing
    missing_new i = rw (fixed-after, bound_middle (fixed u) (fixed v) x, different_more (added_middle (fixed u) (fixed v) x) (bound_middle (fixed u) (fixed v) x) i)

    -- 0, where there are more open places than missing heights
    spare : x ≡ 0 → missing (u ++ (b ∷ v)) < open_places (u ++ (b ∷ v)) → missing (u ++ (x ∷ v)) ≤ open_places (u ++ (x ∷ v))
    spare e lt =
        let w = fixed u ++ fixed v in
        by_test (occurs w x)
        (λ i. omega (arith, one_less, missing-before, missing_held i, bound_in (in_occurs w x i)))
        (λ i. omega (arith, one_less, missing-before, missing_new i, different≤bound w))

    -- the least missing one, where there are as many
    tight : x ≡ least_missing (fixed u ++ fixed v) → missing (u ++ (b ∷ v)) ≡ open_places (u ++ (b ∷ v)) →
        missing (u ++ (x ∷ v)) ≤ open_places (u ++ (x ∷ v))
    tight e same =
        let w = fixed u ++ fixed v in
        let (lt, i) = least_missing_lem w (omega (arith, one_less, missing-before)) in
        let new : occurs w x ≡ false = ap (occurs w) e ∙ i in
        omega (arith, one_less, missing-before, missing_new new)

    -- and then a smaller one is fixed already, and leaves a place too few
    crowded : x < least_missing (fixed u ++ fixed v) → missing (u ++ (b ∷ v)) ≡ open_places (u ++ (b ∷ v)) →
        ¬ (missing (u ++ (x ∷ v)) ≤ open_places (u ++ (x ∷ v)))
    crowded lt same le =
        let w = fixed u ++ fixed v in
        let (low, _) = least_missing_lem w (omega (arith, one_less, missing-before)) in
        let i = below_least w x lt (omega arith) in
        omega (arith, one_less, missing-before, missing_held i)

  -- ---- the choice

  module _ (fits : missing (u ++ (b ∷ v)) ≤ open_places (u ++ (b ∷ v))) where
    -- it is 0, or below the largest fixed height
    pub choice-bound : choice (u ++ (b ∷ v)) < max 1 (bound (fixed (u ++ (b ∷ v))))
    choice-bound = elim (dec_lt (missing (u ++ (b ∷ v))) (open_places (u ++ (b ∷ v)))) [
      | yes lt ↦ omega (arith, choice_spare u v b o lt)
      | no ge ↦
          let some : 0 < open_places (u ++ (b ∷ v)) = omega (arith, one_less 0 refl) in
          omega (arith, choice_tight u v b o (omega arith), least_missing_lem (fixed u ++ fixed v) (omega (arith, missing-before)), ap bound (fixed-before u v b o))
    ]

    pub choice_keeps : is_open (choice (u ++ (b ∷ v))) ≡ false →
        missing (u ++ (choice (u ++ (b ∷ v)) ∷ v)) ≤ open_places (u ++ (choice (u ++ (b ∷ v)) ∷ v))
    choice_keeps h = elim (dec_lt (missing (u ++ (b ∷ v))) (open_places (u ++ (b ∷ v)))) [
      | yes lt ↦ spare _ h (choice_spare u v b o lt) lt
      | no ge ↦ tight _ h (choice_tight u v b o (omega arith)) (omega arith)
    ]

    pub choice_least : (y : ℕ) → is_open y ≡ false → y < choice (u ++ (b ∷ v)) → ¬ (missing (u ++ (y ∷ v)) ≤ open_places (u ++ (y ∷ v)))
    choice_least y h lt = elim (dec_lt (missing (u ++ (b ∷ v))) (open_places (u ++ (b ∷ v)))) [
      | yes l ↦ absurd (omega (arith, choice_spare u v b o l))
      | no ge ↦ crowded y h (omega (arith, choice_tight u v b o (omega arith))) (omega arith)
    ]
