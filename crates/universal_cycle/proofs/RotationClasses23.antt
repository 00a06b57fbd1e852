-- Rules 2 and 3 join the rotation classes of the height windows: each class but that of the zeros has one exit. Assumes nothing.
use mathlib.Core.List.{List, [], ◌∷◌}
use mathlib.Core.Logic.{◌⊎◌, inl, inr, ⊎_elim}
use mathlib.Core.Path.{◌≡◌, sym, ap, ◌∙◌}
use Prim.Native.Nat.{ℕ, suc, ◌*◌, ◌<◌}
use native.Mathlib.Omega.{arith}
use lib.ListN.{length, replicate, length-replicate}
use mathlib.Core.Bool.{true}
use Rattle.weak_orders.specs.Window.{is_height}
use Rattle.weak_orders.proofs.HeightForm.{says_height, height-below}
use Rattle.weak_orders.proofs.Iterates.{stay, ◌⨟◌}
use Rattle.weak_orders.proofs.Lists.{mem_replicate, all_same, total, total_le}
use Rattle.weak_orders.proofs.Tests.{true?, says?}
use Rattle.rotations.specs.Order.{lex_le}
use Rattle.rotations.proofs.Forms.{height_rotated}
use Rattle.rotations.proofs.Rotations.{round, turn, ◌⟳◌, turned, ⟳-sym, length_rotated, total_rotated, mem_rotated, greatest}
use Rattle.successors.specs.Rules.{in_r, rule2, rule3}
use Rattle.successors.proofs.FirstSymbol.{change}
use Rattle.successors.proofs.Rules23.{Spot, out, low₂, high₂, low₃, mid₃, high₃, spot, Cycle, Moves, moves2, moves3, height_change}
use Rattle.successors.proofs.SetR.{says_zeros, R, R_not-zeros, R_of, R_down, R_one}
use Rattle.universal_cycle.proofs.Joined.{next, Home, home, via, Leads, first, Joined}

-- The weak orders of n in height form, and their sum as the depth.
abbrev pub HeightOf : ℕ → List ℕ → Type 0
HeightOf n w = (length w ≡ n) × (is_height w ≡ true)

abbrev pub sum_of : List ℕ → ℕ
sum_of w = total (λ x. x) w

sum_less : (x y : ℕ) (b : List ℕ) → x < y → sum_of (x ∷ b) < sum_of (y ∷ b)
unfolding total
sum_less x y b lt = omega arith

module _ {rule : List ℕ → ℕ} (M : Moves rule) where
  abbrev τ : List ℕ → List ℕ
  τ = change rule

  -- From a window outside R the rule leads through R, and home.
  way_home : (b : List ℕ) {x : ℕ} → Spot b x → ¬ R (x ∷ b) → Home τ sum_of R (x ∷ b) (τ (x ∷ b))
  unfolding change
  way_home b (out {x} r0 r1) n = home (ap (λ y. y ∷ b) (M.stays x b r0 r1))
  way_home b (low₂ {a} t) n =
      rw (M.rises a b t) (via (suc a ∷ b) t.r1 (sum_less a (suc a) b (omega arith)) (home (ap (λ y. y ∷ b) (M.falls a b t))))
  way_home b (high₂ t) n = absurd (n t.r1)
  way_home b (low₃ {a} t) n = ⊎_elim (round_trip (suc a) (suc (suc a)) t.r1 t.r2 (omega arith) (omega arith))
      (round_trip (suc (suc a)) (suc a) t.r2 t.r1 (omega arith) (omega arith)) (M.cycles a b t)
    where
      round_trip : (i j : ℕ) → R (i ∷ b) → R (j ∷ b) → a < i → a < j → Cycle rule b a i j → Home τ sum_of R (a ∷ b) (τ (a ∷ b))
      round_trip i j r s lt lt' c = rw c.from_low (via (i ∷ b) r (sum_less a i b lt)
          (rw c.from_i (via (j ∷ b) s (sum_less a j b lt') (home (ap (λ y. y ∷ b) c.from_j)))))
  way_home b (mid₃ t) n = absurd (n t.r1)
  way_home b (high₃ t) n = absurd (n t.r2)

  -- And each window of R is come to so, from a lower one.
  record Below (b : List ℕ) (y : ℕ) : Type 0 where
    x : ℕ
    lower : x < y
    height : (is_height (x ∷ b) ≡ true)
    leads : Leads τ R (x ∷ b) (y ∷ b)

  one_step : (b : List ℕ) (a i j : ℕ) → R (i ∷ b) → Cycle rule b a i j → Leads τ R (a ∷ b) (i ∷ b)
  unfolding change
  one_step b a i j r c = first (ap (λ y. y ∷ b) (sym c.from_low)) r

  two_steps : (b : List ℕ) (a i j : ℕ) → R (i ∷ b) → R (j ∷ b) → Cycle rule b a i j → Leads τ R (a ∷ b) (j ∷ b)
  unfolding change
  two_steps b a i j r s c = next (one_step b a i j r c) (ap (λ y. y ∷ b) (sym c.from_i)) s

  from_below : (b : List ℕ) {y : ℕ} → Spot b y → R (y ∷ b) → Below b y
  unfolding change
  from_below b (out r0 r1) r = absurd (r0 r)
  from_below b (low₂ t) r = absurd (t.r0 r)
  from_below b (high₂ {a} t) r =
      record { x = a; lower = omega arith; height = R_down a b r; leads = first (ap (λ y. y ∷ b) (sym (M.rises a b t))) r }
  from_below b (low₃ t) r = absurd (t.r0 r)
  from_below b (mid₃ {a} t) r =
      let l = ⊎_elim (one_step b a _ _ r) (two_steps b a _ _ t.r2 r) (M.cycles a b t) in
      record { x = a; lower = omega arith; height = R_down a b r; leads = l }
  from_below b (high₃ {a} t) r =
      let l = ⊎_elim (two_steps b a _ _ t.r1 r) (one_step b a _ _ r) (M.cycles a b t) in
      record { x = a; lower = omega arith; height = R_down a b t.r1; leads = l }

  module _ (m : ℕ) where
    abbrev P : List ℕ → Type 0
    P = HeightOf (suc m)

    abbrev zeros : List ℕ
    zeros = replicate (suc m) 0

    change_in : (w : List ℕ) → P w → P (τ w)
    unfolding change
    change_in [] (e, h) = absurd (omega arith)
    change_in (x ∷ b) (e, h) = (e, height_change M x b h)

    one_exit : (w v : List ℕ) → P w → R w → w ⟳ v → R v → v ≡ w
    one_exit [] v (e, h) r c s = absurd (omega arith)
    one_exit (x ∷ b) [] (e, h) r c s = absurd (omega (arith, length_rotated c))
    one_exit (x ∷ b) (y ∷ d) p r c s = R_one x b y d r s c

    detour : (w : List ℕ) → P w → ¬ R w → Home τ sum_of R w (τ w)
    detour [] (e, h) n = absurd (omega arith)
    detour (x ∷ b) p n = way_home b (spot b x) n

    up : (w : List ℕ) → P w → (zeros ⟳ w) ⊎ ((x : List ℕ) × P x × (sum_of x < sum_of w) × (y : List ℕ) × Leads τ R x y × (w ⟳ y))
    up [] (e, h) = absurd (omega arith)
    up (x ∷ b) (e, h) = let (g, c, high) = greatest x b in at g c high
      where
        at : (g : List ℕ) → x ∷ b ⟳ g → ((v : List ℕ) → x ∷ b ⟳ v → lex_le v g ≡ true) →
            (zeros ⟳ x ∷ b) ⊎ ((x₀ : List ℕ) × P x₀ × (sum_of x₀ < sum_of (x ∷ b)) × (y : List ℕ) × Leads τ R x₀ y × (x ∷ b ⟳ y))
        at [] c high = absurd (omega (arith, length_rotated c))
        at (y ∷ d) c high = elim (says? (says_zeros (y ∷ d))) [
          | yes z ↦ inl (stay (sym (all_same 0 (x ∷ b) (λ v k. z v (mem_rotated (⟳-sym c) v k)) ∙ ap (λ k. replicate k 0) e)))
          | no z ↦
              let B = from_below d (spot d y) (R_of y d (height_rotated c h) (λ v c'. high v (c ⨟ c')) z) in
              let shallow : sum_of (B.x ∷ d) < sum_of (x ∷ b) = omega (arith, sum_less B.x y d B.lower, total_rotated (λ k. k) c) in
              inr (B.x ∷ d, (omega (arith, length_rotated c), B.height), shallow, y ∷ d, B.leads, c)
        ]

    pub joined : Joined P turn τ sum_of R zeros
    joined = record {
      root_in = (length-replicate (suc m) 0, (says_height zeros).of (λ x k y lt. absurd (omega (arith, mem_replicate (suc m) 0 x k))));
      ρ_in = λ w (e, h). (length_rotated turned ∙ e, height_rotated turned h);
      τ_in = change_in;
      round = λ w p. round w;
      level = λ w p. total_rotated (λ x. x) turned;
      deepest = suc m * suc m;
      bounded = λ w (e, h). rw e at (total_le (λ x. x) (length w) w (λ x k. omega (arith, height-below w h x k)));
      exit? = λ w p. true? (in_r w);
      one_exit = λ p r c s. one_exit _ _ p r c s;
      no_exit = λ c r. R_not-zeros _ r (λ x k. mem_replicate (suc m) 0 x (mem_rotated c x k));
      detour = detour;
      up = up;
    }

-- The weak orders of n = m + 1 in height form are one cycle of rule 2, and one of rule 3.
pub joined2 : (m : ℕ) → Joined (HeightOf (suc m)) turn (change rule2) sum_of R (replicate (suc m) 0)
joined2 m = joined moves2 m

pub joined3 : (m : ℕ) → Joined (HeightOf (suc m)) turn (change rule3) sum_of R (replicate (suc m) 0)
joined3 m = joined moves3 m
