-- Two starts of one round, from the tour of the first. Assumes nothing.
use mathlib.Core.Path.{◌≡◌, refl, sym, ap, ◌∙◌}
use Prim.Native.Nat.{ℕ, suc, ◌<◌}
use native.Mathlib.Omega.{arith}
use native.Mathlib.Decide.{dec_lt}
use Rattle.weak_orders.specs.Window.{iter}
use Rattle.universal_cycle.specs.Round.{Tour}
use Rattle.universal_cycle.specs.TwoStarts.{listed, Between, TwoStarts}
use Rattle.universal_cycle.proofs.MovedLists.{moved_list}
use Rattle.universal_cycle.proofs.Rounds.{universal_cycle}

-- ---- what a tour meets before its last step

module _ {A : Type 0} {P : A → Type 0} {f : A → A} {N : ℕ} {s : A} (t : Tour P f N s) where
  -- nothing twice
  pub apart : (i j : ℕ) → i < N → j < N → iter f i s ≡ iter f j s → i ≡ j
  unfolding iter
  apart i j l l' e =
      let o = t.once (iter f (suc i) s) (t.kept (suc i)) in
      omega (arith, o.only (suc i) (omega arith) (omega arith) refl, o.only (suc j) (omega arith) (omega arith) (ap f (sym e)))

  -- and everything: what it meets at its last step is the start
  pub meets : (w : A) → P w → (k : ℕ) × (k < N) × (iter f k s ≡ w)
  unfolding iter
  meets w p = let o = t.once w p in elim (dec_lt o.when N) [
    | yes lt ↦ (o.when, lt, o.met)
    | no ge ↦
        let last : o.when ≡ N = omega (arith, o.last) in
        (0, omega (arith, o.first), sym t.closed ∙ ap (λ k. iter f k s) (sym last) ∙ o.met)
  ]

-- ---- the steps between

pub between : {A : Type 0} {P : A → Type 0} {f : A → A} {N : ℕ} {u : A} → Tour P f N u → (v : A) → P v → Between f N u v
between {f = f} {N = N} {u = u} t v p =
    let (k, lt, e) = meets t v p in
    record {
      steps = k;
      below = lt;
      leads = e;
      only = λ j l e'. apart t j k (omega arith) lt (e' ∙ sym e);
      lists = ap (listed f N) (sym e) ∙ moved_list f N k u t.closed (omega arith);
    }

pub two_starts : TwoStarts
two_starts r t n pos u v p q = between (universal_cycle r t n pos u p) v q
