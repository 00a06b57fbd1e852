-- Symbols that occur once, plain windows, and the first symbols that rule 1 exchanges. Assumes nothing.
use mathlib.Core.List.Memᴰ
use mathlib.Core.List.{List, [], ◌∷◌}
use mathlib.Core.Logic.{◌⊎◌, inl, inr, ⊎_elim, ◌≢◌}
use mathlib.Core.Path.{◌≡◌, refl, ◌∙◌}
use Prim.Native.Nat.{ℕ, suc, ◌+◌, ◌≤◌, ◌<◌}
use native.Mathlib.Omega.{arith}
use native.Mathlib.Decide.{dec_lt, ℕ_discrete}
use borrow.Author.Tests.{lt-ltb, le-ltb}
use Rattle.weak_orders.specs.Says.{Says}
use Rattle.weak_orders.specs.Window.{num}
use Rattle.weak_orders.proofs.RankForm.{Rank, rank_gap, rank_one, rank_replace}
use Rattle.weak_orders.proofs.Symbols.{num-same, num-other, num_mem, below_less, below_more, below_suc, below-flat}
use Rattle.weak_orders.proofs.Tests.{◌∈◌, here, there, nowhere, split_mem, says_eq, says_or, says_all}
use Rattle.rotations.proofs.Rotations.{◌⟳◌, num_rotated, mem_rotated}
use Rattle.successors.specs.Rules.{single, is_plain, largest_below}

-- A symbol is single if it is 1 or occurs once; a window is plain if all its symbols are.
abbrev pub Single : List ℕ → ℕ → Type 0
Single w v = (v ≡ 1) ⊎ (num w v ≡ 1)

pub says_single : (w : List ℕ) (v : ℕ) → Says (single w v) (Single w v)
unfolding single
says_single w v = says_or (says_eq v 1) (says_eq (num w v) 1)

abbrev pub Plain : List ℕ → Type 0
Plain w = (v : ℕ) → v ∈ w → Single w v

pub says_plain : (w : List ℕ) → Says (is_plain w) (Plain w)
unfolding is_plain
says_plain w = says_all (says_single w) w

pub single_rotated : {w v : List ℕ} → w ⟳ v → (x : ℕ) → Single w x → Single v x
single_rotated c x s = ⊎_elim inl (λ e. inr (num_rotated c x ∙ e)) s

pub plain_rotated : {w v : List ℕ} → w ⟳ v → Plain w → Plain v
plain_rotated c h x m = single_rotated c x (h x (mem_rotated c x m))

-- The largest symbol below v: no symbol below v is larger, and it is one where it is not 0.
largest_step : (x : ℕ) (b : List ℕ) (v : ℕ) →
    ((x < v) × (largest_below b v < x) × (largest_below (x ∷ b) v ≡ x)) ⊎
    ((largest_below (x ∷ b) v ≡ largest_below b v) × (x < v → x ≤ largest_below b v))
unfolding largest_below
largest_step x b v = elim (dec_lt x v) [
  | no ge ↦ inr (rw (le-ltb x v (omega arith)), λ lt. absurd (ge lt))
  | yes lt ↦ elim (dec_lt (largest_below b v) x) [
    | yes more ↦ inl (lt, more, rw (lt-ltb x v lt, lt-ltb (largest_below b v) x more))
    | no less ↦ inr (rw (lt-ltb x v lt, le-ltb (largest_below b v) x (omega arith)), λ lt'. omega arith)
  ]
]

pub largest_above : (w : List ℕ) (v u : ℕ) → u ∈ w → u < v → u ≤ largest_below w v
largest_above [] v u m lt = nowhere m
largest_above (x ∷ b) v u m lt = ⊎_elim
    (λ (l, more, e). split_mem (λ i. omega arith) (λ m'. omega (arith, largest_above b v u m' lt)) m)
    (λ (e, over). split_mem (λ i. omega (arith, over (omega arith))) (λ m'. omega (arith, largest_above b v u m' lt)) m)
    (largest_step x b v)

pub largest_in : (w : List ℕ) (v : ℕ) → 0 < largest_below w v → (largest_below w v ∈ w) × (largest_below w v < v)
largest_in [] v lt = unfold largest_below in absurd (omega arith)
largest_in (x ∷ b) v lt = ⊎_elim
    (λ (l, more, e). (Memᴰ.head e, omega arith))
    (λ (e, _). let (m, l) = largest_in b v (omega arith) in (Memᴰ.cast e (there m), omega arith))
    (largest_step x b v)

-- Before the tail b, p and x may be exchanged: p occurs in b, and its next is x, which does not.
pub record Under (b : List ℕ) (p x : ℕ) : Type 0 where
  pub in_tail : 0 < num b p
  pub next : p + num b p ≡ x
  pub between : (v : ℕ) → v ∈ b → p < v → x < v

-- Such is a first symbol that occurs once more, and what it rises to.
pub under_rise : (p : ℕ) (b : List ℕ) → Rank (p ∷ b) → 0 < num b p → Under b p (p + num b p)
under_rise p b h more = record {
  in_tail = more;
  next = refl;
  between = λ v m lt. omega (arith, rank_gap (p ∷ b) h p v here (there m) lt, num-same p b);
}

-- And such is a first symbol that occurs once, and the largest below it.
pub under_fall : (x : ℕ) (b : List ℕ) → Rank (x ∷ b) → 1 < x → num (x ∷ b) x ≡ 1 → Under b (largest_below (x ∷ b) x) x
under_fall x b h big once =
    let w = x ∷ b in
    let p = largest_below w x in
    let low : 1 ≤ p = largest_above w x 1 (rank_one w h x here) big in
    let (m, lt) = largest_in w x low in
    let apart : p ≢ x = λ e. omega arith in
    let beyond : (v : ℕ) → v ∈ w → p < v → x ≤ v = λ v k l.
    elim (dec_lt v x) [ yes l' ↦ absurd (omega (arith, largest_above w x v k l')) | no l' ↦ omega arith ] in
    record {
      in_tail = omega (arith, num-other x b p apart, (num_mem w p).1 m);
      next = omega (
        arith,
        num-other x b p apart,
        h p m,
        h x here,
        below_suc w p,
        below-flat w (suc p) x lt beyond,
      );
      between = λ v k l.
          let ne : v ≢ x = λ e. omega (arith, num-same x b, rw e at ((num_mem b v).1 k)) in
          omega (arith, beyond v (there k) l);
    }

module _ (b : List ℕ) (p x : ℕ) (u : Under b p x) where
  pub under_absent : num b x ≡ 0
  under_absent =
      let absent : ¬ (0 < num b x) = λ h. omega (arith, u.between x ((num_mem b x).0 h) (omega arith)) in
      omega arith

  pub under_once : num (x ∷ b) x ≡ 1
  under_once = omega (arith, num-same x b, under_absent)

  -- Both ways rank form is kept.
  pub rank_rise : Rank (p ∷ b) → Rank (x ∷ b)
  rank_rise h = rank_replace p x b h
      (omega (
        arith,
        h p here,
        below_less p b x (omega arith),
        below_suc (p ∷ b) p,
        num-same p b,
        below-flat (p ∷ b) (suc p) x (omega arith) (λ v m l. split_mem (λ e. omega arith) (λ k. omega (arith, u.between v k l)) m),
      ))
      (λ v m. (u.between v m, λ lt. omega arith))

  pub rank_fall : Rank (x ∷ b) → Rank (p ∷ b)
  rank_fall h = rank_replace x p b h
      (omega (arith, h p (there ((num_mem b p).0 u.in_tail)), below_more x b p (omega arith)))
      (λ v m. ((λ lt. omega arith), u.between v m))

  pub under_largest : largest_below (x ∷ b) x ≡ p
  under_largest = elim (ℕ_discrete q p) [ yes e ↦ e | no ne ↦ absurd (other (omega (arith, over))) ]
    where
      q : ℕ
      q = largest_below (x ∷ b) x

      over : p ≤ q
      over = largest_above (x ∷ b) x p (there ((num_mem b p).0 u.in_tail)) (omega arith)

      other : ¬ (p < q)
      other lt =
          let (m, less) = largest_in (x ∷ b) x (omega arith) in
          split_mem (λ e. omega arith) (λ k. omega (arith, u.between q k lt)) m

  -- The other symbols occur as often.
  pub under_num : (v : ℕ) → v ≢ p → v ≢ x → num (x ∷ b) v ≡ num (p ∷ b) v
  under_num v np nx = omega (arith, num-other p b v np, num-other x b v nx)

  pub tail-num : (v : ℕ) → v ∈ b → v ≢ p → num (x ∷ b) v ≡ num (p ∷ b) v
  tail-num v m np = under_num v np (λ e. omega (arith, (num_mem b v).1 m, under_absent, rw e at ((num_mem b v).1 m)))
