-- Steps that agree wherever they are taken make the same tour. Assumes nothing.
use Prim.Native.Nat.{ℕ, zero, suc}
use mathlib.Core.Path.{◌≡◌, refl, sym, ap, subst, ◌∙◌}
use Rattle.weak_orders.specs.Window.{iter}
use Rattle.weak_orders.proofs.Iterates.{by, along}
use Rattle.universal_cycle.specs.Round.{Tour}

module _ {A : Type 0} {P : A → Type 0} {f g : A → A} (f-in : (w : A) → P w → P (f w)) (agree : (w : A) → P w → f w ≡ g w) where
  pub same-iter : (k : ℕ) (s : A) → P s → iter g k s ≡ iter f k s
  unfolding iter
  same-iter zero s p = refl
  same-iter (suc k) s p = ap g (same-iter k s p) ∙ sym (agree (iter f k s) (along P f-in (by k refl) p))

  pub same_tour : {N : ℕ} {s : A} → P s → Tour P f N s → Tour P g N s
  same_tour {N} {s} p t = record {
    closed = same-iter N s p ∙ t.closed;
    kept = λ k. subst P (sym (same-iter k s p)) (t.kept k);
    once = λ w q.
        let o = t.once w q in
        record {
          when = o.when;
          first = o.first;
          last = o.last;
          met = same-iter o.when s p ∙ o.met;
          only = λ k l l' e. o.only k l l' (sym (same-iter k s p) ∙ e);
        };
  }
