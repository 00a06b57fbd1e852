-- Rotation classes joined into one cycle: ρ rotates, τ leads from class to class, and ρ after τ goes through them all. Assumes nothing.
use Prim.Native.Nat.{ℕ, zero, suc, ◌+◌, ◌≤◌, ◌<◌}
use native.Mathlib.Omega.{arith}
use mathlib.Core.Path.{◌≡◌, refl, sym, ap, ◌∙◌}
use mathlib.Core.Logic.{◌⊎◌, ⊎_elim}
use Rattle.weak_orders.proofs.Iterates.{◌⇝⟨◌⟩◌, along, stay, on, ◌⨟◌, first_step, push, last_step, back}
use Rattle.ranking.specs.Numbering.{Numbering}
use Rattle.universal_cycle.specs.Round.{Tour}
use Rattle.universal_cycle.proofs.Tours.{tour}

-- From `y` on, `τ` leads through exits deeper than `w`, and home to `w`.
pub data Home {A : Type 0} (τ : A → A) (depth : A → ℕ) (Exit : A → Type 0) (w : A) : A → Type 0 where
  home : {y : A} → y ≡ w → Home τ depth Exit w y
  via : (y : A) → Exit y → depth w < depth y → Home τ depth Exit w (τ y) → Home τ depth Exit w y

-- From `x`, `τ` leads through exits to the exit `y`.
pub data Leads {A : Type 0} (τ : A → A) (Exit : A → Type 0) (x : A) : A → Type 0 where
  first : {y : A} → y ≡ τ x → Exit y → Leads τ Exit x y
  next : {y z : A} → Leads τ Exit x y → z ≡ τ y → Exit z → Leads τ Exit x z

-- The rotation classes of `P` hang below that of `root`, each by its one exit.
pub record Joined {A : Type 0} (P : A → Type 0) (ρ τ : A → A) (depth : A → ℕ) (Exit : A → Type 0) (root : A) : Type 0 where
  pub root_in : P root
  pub ρ_in : (w : A) → P w → P (ρ w)
  pub τ_in : (w : A) → P w → P (τ w)
  pub round : (w : A) → P w → ρ w ⇝⟨ ρ ⟩ w
  pub level : (w : A) → P w → depth (ρ w) ≡ depth w
  pub deepest : ℕ
  pub bounded : (w : A) → P w → depth w ≤ deepest
  pub exit? : (w : A) → P w → Dec (Exit w)
  pub one_exit : {w v : A} → P w → Exit w → w ⇝⟨ ρ ⟩ v → Exit v → v ≡ w
  pub no_exit : {v : A} → root ⇝⟨ ρ ⟩ v → ¬ Exit v
  pub detour : (w : A) → P w → ¬ Exit w → Home τ depth Exit w (τ w)
  pub up : (w : A) → P w → (root ⇝⟨ ρ ⟩ w) ⊎ ((x : A) × P x × (depth x < depth w) × (y : A) × Leads τ Exit x y × (w ⇝⟨ ρ ⟩ y))

module _ {A : Type 0} {P : A → Type 0} {ρ τ : A → A} {depth : A → ℕ} {Exit : A → Type 0} {root : A} (J : Joined P ρ τ depth Exit root) where
  abbrev σ : A → A
  σ w = ρ (τ w)

  -- At the depth `d`, whatever is no exit comes to its neighbour in its class.
  abbrev Onward : ℕ → Type 0
  Onward d = (w : A) → P w → depth w ≡ d → ¬ Exit w → σ w ⇝⟨ σ ⟩ ρ w

  -- Then the class of `u` is walked from `u`, if at most its last is an exit.
  walk : {u v : A} → P u → Onward (depth u) → ((z : A) → u ⇝⟨ ρ ⟩ z → Exit z → ρ z ≡ u) → u ⇝⟨ ρ ⟩ v → u ⇝⟨ σ ⟩ v
  walk {u} p onward last c = (along Q next c (p, refl, stay refl, stay refl)).3
    where
      Q : A → Type 0
      Q z = P z × (depth z ≡ depth u) × (u ⇝⟨ ρ ⟩ z) × (u ⇝⟨ σ ⟩ z)

      next : (z : A) → Q z → Q (ρ z)
      next z (p, e, c, d) = (
        J.ρ_in z p,
        J.level z p ∙ e,
        on c,
        elim (J.exit? z p) [ yes x ↦ stay (sym (last z c x)) | no x ↦ d ⨟ first_step (onward z p e x) ],
      )

  -- So is every class from behind its exit.
  lap : {y v : A} → P y → Exit y → Onward (depth y) → y ⇝⟨ ρ ⟩ v → ρ y ⇝⟨ σ ⟩ v
  lap {y} p x onward c =
      walk (J.ρ_in y p) (rw (J.level y p) onward) (λ z d x'. ap ρ (J.one_exit p x (first_step d) x')) (J.round y p ⨟ c)

  -- A way home to `w` is followed, once the deeper classes are walked.
  follow : {w y : A} → ((d : ℕ) → depth w < d → Onward d) → P y → Home τ depth Exit w y → ρ y ⇝⟨ σ ⟩ ρ w
  follow deeper p (home e) = stay (ap ρ e)
  follow deeper p (via y x lt h) = lap p x (deeper _ lt) (stay refl) ⨟ first_step (follow deeper (J.τ_in y p) h)

  -- So it is onward everywhere: by induction from the deepest.
  onward : (b d : ℕ) → J.deepest < d + b → Onward d
  onward zero d lt w p e x = absurd (omega (arith, J.bounded w p))
  onward (suc b) d lt w p e x = follow (λ d' lt'. onward b d' (omega arith)) (J.τ_in w p) (J.detour w p x)

  onwards : (d : ℕ) → Onward d
  onwards d = onward (suc J.deepest) d (omega arith)

  -- What comes to `x` comes to the class of each exit that `x` leads to.
  enter : {u x y : A} → P x → u ⇝⟨ σ ⟩ x → Leads τ Exit x y → P y × Exit y × (u ⇝⟨ σ ⟩ ρ y)
  enter p c (first e ex) = (rw e (J.τ_in _ p), ex, rw e (on c))
  enter p c (next l e ex) =
      let (q, ex', d) = enter p c l in
      (rw e (J.τ_in _ q), ex, rw e (d ⨟ on (lap q ex' (onwards _) (stay refl))))

  -- The root comes to all of `P`: by induction on the depth.
  arrive : (d : ℕ) (w : A) → P w → depth w < d → root ⇝⟨ σ ⟩ w
  arrive zero w p lt = absurd (omega arith)
  arrive (suc d) w p lt = ⊎_elim
      (walk J.root_in (onwards _) (λ z c x. absurd (J.no_exit c x)))
      (λ (x, q, lt', y, l, c).
      let (r, ex, e) = enter q (arrive d x q (omega arith)) l in
      e ⨟ lap r ex (onwards _) (back (J.round w p) c))
      (J.up w p)

  pub reach : (w : A) → P w → root ⇝⟨ σ ⟩ w
  reach w p = arrive (suc (depth w)) w p (omega arith)

  -- And back to itself, by way of the last of its class.
  return : σ root ⇝⟨ σ ⟩ root
  return =
      let (w, c, e) = last_step (J.round root J.root_in) in
      let p = along P J.ρ_in c J.root_in in
      push (reach w p) ⨟ onwards _ w p refl (J.no_exit c) ⨟ stay e

  pub connected : (u v : A) → P u → P v → u ⇝⟨ σ ⟩ v
  connected u v p q = back return (reach u p) ⨟ reach v q

  -- Where `P` is listed, one cycle goes through all of it, wherever it starts.
  pub one_cycle : {N : ℕ} {place : A → ℕ} {item : ℕ → A} → Numbering P N place item → (s : A) → P s → Tour P σ N s
  one_cycle L = tour L (λ w p. J.ρ_in (τ w) (J.τ_in w p)) connected
