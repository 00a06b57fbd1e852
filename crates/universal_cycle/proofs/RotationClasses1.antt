-- Rule 1 joins the rotation classes of the rank windows: each class but that of the ones has one exit. Assumes nothing.
use mathlib.Core.List.Memᴰ
use mathlib.Core.List.{List, [], ◌∷◌, ◌++◌, append-nil}
use mathlib.Core.Logic.{◌⊎◌, inl, inr, ⊎_elim, ◌≢◌}
use mathlib.Core.Path.{◌≡◌, refl, sym, ap, ap₂, subst, ◌∙◌}
use Prim.Native.Nat.{ℕ, zero, suc, ◌+◌, ◌-◌, ◌*◌, ◌≤◌, ◌<◌}
use native.Mathlib.Omega.{arith}
use lib.Seq.{take-append-le}
use lib.ListN.{length, length-append, take, drop, take-append-drop, replicate, length-replicate}
use mathlib.Core.Bool.{true}
use Rattle.weak_orders.specs.Window.{num, is_rank}
use Rattle.weak_orders.proofs.Iterates.{stay, ◌⨟◌}
use Rattle.weak_orders.proofs.Lists.{mem_replicate, mem_take, says_same, all_same, total, total_le, last_fail, last_unique}
use Rattle.weak_orders.proofs.RankForm.{Rank, says_rank, rank_positive, rank_next, rank_one}
use Rattle.weak_orders.proofs.Symbols.{num_mem, below_zero, below-flat}
use Rattle.weak_orders.proofs.Tests.{◌∈◌, here, nowhere, true?, says?, says_all}
use Rattle.rotations.specs.Order.{lex_le}
use Rattle.rotations.specs.Rotation.{rotation, start}
use Rattle.rotations.proofs.Orders.{lex_antisymm, lex_head}
use Rattle.rotations.proofs.Forms.{rank_rotated}
use Rattle.rotations.proofs.Rotations.{round, turn, ◌⟳◌, turned, swing, ⟳-sym, front_once, length_rotated, num_rotated, total_rotated, mem_rotated}
use Rattle.rotations.proofs.Rotations.{to_front, rotation_split}
use Rattle.rotations.proofs.Rotations.{least, Start, start_first}
use Rattle.successors.specs.Rules.{before, rule1}
use Rattle.successors.proofs.FirstSymbol.{change}
use Rattle.successors.proofs.Rule1.{Case1, Case3, exit1, Exit1, says_exit1, weight, weight_le, case1_under, exit_partner, other_partner}
use Rattle.successors.proofs.Rule1.{rank_change}
use Rattle.successors.proofs.Singles.{Single, says_single, Plain, says_plain, single_rotated, plain_rotated, under_absent}
use Rattle.universal_cycle.proofs.Joined.{Home, home, via, Leads, first, Joined}

-- The least rotation begins with 1.
least_one : (x : ℕ) (b : List ℕ) → Rank (x ∷ b) → ((v : List ℕ) → x ∷ b ⟳ v → lex_le (x ∷ b) v ≡ true) → x ≤ 1
least_one x b r low = let (d, c) = to_front (x ∷ b) 1 (rank_one (x ∷ b) r x here) in lex_head x b 1 d (low (1 ∷ d) c)

-- What stands between the first symbol and the start.
before_one : (x : ℕ) (b : List ℕ) → before 1 (x ∷ b) ≡ []
unfolding before
before_one x b = refl

before_more : (k x : ℕ) (b : List ℕ) → before (suc (suc k)) (x ∷ b) ≡ take k b
unfolding before
before_more k x b = let e : suc (suc k) - 1 ≡ suc k = omega arith in rw e

-- In case 3 the first symbol is the last repeated one of the class's least rotation.
pub record Shape (x : ℕ) (b k r : List ℕ) : Type 0 where
  pub parts : b ≡ r ++ k
  pub lowest : (v : List ℕ) → x ∷ b ⟳ v → lex_le (k ++ (x ∷ r)) v ≡ true
  pub rest : (v : ℕ) → v ∈ r → Single (x ∷ b) v

case3_shape : (x : ℕ) (b : List ℕ) → Rank (x ∷ b) → Case3 x b → (k : List ℕ) × (r : List ℕ) × Shape x b k r
unfolding rotation
case3_shape x b h c = let (i, e, S) = start_first x b in at i e S
  where
    at : (i : ℕ) → start (x ∷ b) ≡ suc i → Start (x ∷ b) i → (k : List ℕ) × (r : List ℕ) × Shape x b k r
    at zero e S = absurd (omega (arith, c.big, least_one x b h (rw append-nil at S.lowest)))
    at (suc i) e S = (
      drop i b,
      take i b,
      record { parts = sym (take-append-drop i b); lowest = S.lowest; rest = λ v m. c.clear v (rw (e, before_more i x b) m) },
    )

-- So it is the same for the whole rotation class.
shape_unique : (x : ℕ) (b : List ℕ) (y : ℕ) (d k r k' r' : List ℕ) → x ∷ b ⟳ y ∷ d →
    ¬ Single (x ∷ b) x → ¬ Single (y ∷ d) y → Shape x b k r → Shape y d k' r' → y ∷ d ≡ x ∷ b
shape_unique x b y d k r k' r' c n n' S S' =
    let rotated : x ∷ b ⟳ k ++ (x ∷ r) = stay (ap (λ l. x ∷ l) S.parts) ⨟ swing (x ∷ r) k in
    let rotated' : y ∷ d ⟳ k' ++ (y ∷ r') = stay (ap (λ l. y ∷ l) S'.parts) ⨟ swing (y ∷ r') k' in
    let same = lex_antisymm _ _ (S.lowest _ (c ⨟ rotated')) (S'.lowest _ (⟳-sym c ⨟ rotated)) in
    let (e₁, e₂) = last_unique (Single (x ∷ b)) k x r k' y r' n S.rest (λ s. n' (single_rotated c y s))
    (λ v m. single_rotated (⟳-sym c) v (S'.rest v m)) same in
    ap (λ l. y ∷ l) S'.parts ∙ ap₂ ◌++◌ (sym e₂) (sym e₁) ∙ sym (ap (λ l. x ∷ l) S.parts)

case3_repeated : (x : ℕ) (b : List ℕ) → Case3 x b → ¬ Single (x ∷ b) x
case3_repeated x b c = ⊎_elim (λ e. omega (arith, c.big)) (λ e. omega (arith, c.many))

-- A rotation class has at most one exit.
one_exit1 : (x : ℕ) (b : List ℕ) (y : ℕ) (d : List ℕ) → Rank (x ∷ b) → Exit1 (x ∷ b) → x ∷ b ⟳ y ∷ d → Exit1 (y ∷ d) → y ∷ d ≡ x ∷ b
one_exit1 x b y d h t c t' = ⊎_elim
    (λ c1. ⊎_elim (ones c1) (λ c3. absurd (c3.not_plain (plain_rotated c c1.plain))) ((says_exit1 y d).to t'))
    (λ c3. ⊎_elim (λ c1. absurd (c3.not_plain (plain_rotated (⟳-sym c) c1.plain))) (repeated c3) ((says_exit1 y d).to t'))
    ((says_exit1 x b).to t)
  where
    ones : Case1 x b → Case1 y d → y ∷ d ≡ x ∷ b
    ones c1 c1' =
        let same : y ≡ x = omega (arith, c1.is, c1'.is, num_rotated c 1) in
        let once : ¬ (x ∈ b) = λ m. omega (arith, (num_mem b x).1 m, under_absent b 1 x (case1_under x b h c1)) in
        ap (λ z. z ∷ d) same ∙ front_once x b d once (rw same at c)

    repeated : Case3 x b → Case3 y d → y ∷ d ≡ x ∷ b
    repeated c3 c3' =
        let (k, r, S) = case3_shape x b h c3 in
        let (k', r', S') = case3_shape y d (rank_rotated c h) c3' in
        shape_unique x b y d k r k' r' c (case3_repeated x b c3) (case3_repeated y d c3') S S'

abbrev ClassExit : List ℕ → Type 0
ClassExit w = (y : ℕ) × (d : List ℕ) × (w ⟳ y ∷ d) × Exit1 (y ∷ d)

-- A plain class with another symbol than 1 has an exit.
plain_exit : (x : ℕ) (b : List ℕ) → Rank (x ∷ b) → Plain (x ∷ b) → (s : ℕ) → s ∈ x ∷ b → s ≢ 1 → ClassExit (x ∷ b)
plain_exit x b h pl s m ne =
    let w = x ∷ b in
    let y = 1 + num w 1 in
    let (d, c) = to_front w y (rank_next w h 1 s (rank_one w h s m) m (omega (arith, rank_positive w h s m))) in
    (y, d, c, (says_exit1 y d).of (inl (record { plain = plain_rotated c pl; is = omega (arith, num_rotated c 1) })))

-- The converse of `case3_shape`.
shape_case3 : (x : ℕ) (b k r : List ℕ) → Rank (x ∷ b) → ¬ Single (x ∷ b) x → Shape x b k r → Case3 x b
shape_case3 x b k r h n S = record {
  not_plain = λ p. n (p x here);
  big = big;
  many = let ne : num (x ∷ b) x ≢ 1 = λ e. n (inr e) in omega (arith, (num_mem (x ∷ b) x).1 here);
  clear = λ v m. S.rest v (let (i, e, S') = start_first x b in at i v (soon i S') (rw e at m));
}
  where
    big : 1 < x
    big = let ne : x ≢ 1 = λ e. n (inl e) in omega (arith, rank_positive (x ∷ b) h x here)

    -- The least rotation does not begin with x, so it starts behind r.
    some : (k : List ℕ) → Shape x b k r → length r < length b
    some [] S = let e : b ≡ r = S.parts ∙ append-nil r in absurd (omega (arith, big, least_one x b h (λ v c. rw e (S.lowest v c))))
    some (y ∷ k) S = omega (arith, ap length S.parts, length-append r (y ∷ k))

    soon : (i : ℕ) → Start (x ∷ b) i → i ≤ suc (length r)
    soon i S' =
        let j = suc (length r) in
        let e : rotation (x ∷ b) j ≡ k ++ (x ∷ r) = ap (λ l. rotation (x ∷ l) j) S.parts ∙ rotation_split (x ∷ r) k in
        S'.first j (omega (arith, some k S)) (λ v c. rw e (S.lowest v c))

    at : (i v : ℕ) → i ≤ suc (length r) → v ∈ before (suc i) (x ∷ b) → v ∈ r
    at zero v le m = nowhere (rw (before_one x b) at m)
    at (suc i) v le m =
        let e : take i b ≡ take i r = ap (take i) S.parts ∙ take-append-le i r k (omega arith) in
        mem_take i r v (rw (before_more i x b, e) at m)

-- So has a class with a repeated symbol: behind the last one of its least rotation.
repeated_exit : (x : ℕ) (b : List ℕ) → Rank (x ∷ b) → ¬ Plain (x ∷ b) → ClassExit (x ∷ b)
repeated_exit x b h np = let (a, c, low) = least x b in at a c low
  where
    at : (a : List ℕ) → x ∷ b ⟳ a → ((v : List ℕ) → x ∷ b ⟳ v → lex_le a v ≡ true) → ClassExit (x ∷ b)
    at a c low =
        let (k, s, r, e, f, g) = last_fail (says_single a) a (λ h. np (plain_rotated (⟳-sym c) h)) in
        let c' : a ⟳ s ∷ (r ++ k) = stay e ⨟ swing k (s ∷ r) in
        let S : Shape s (r ++ k) k r = record {
          parts = refl;
          lowest = λ v c''. rw e at (low v (c ⨟ c' ⨟ c''));
          rest = λ v m. single_rotated c' v (g v m);
        } in
        let C = shape_case3 s (r ++ k) k r (rank_rotated (c ⨟ c') h) (λ t. f (single_rotated (⟳-sym c') s t)) S in
        (s, r ++ k, c ⨟ c', (says_exit1 s (r ++ k)).of (inr C))

class_exit : (x : ℕ) (b : List ℕ) → Rank (x ∷ b) → ¬ ((v : ℕ) → v ∈ x ∷ b → v ≡ 1) → ClassExit (x ∷ b)
class_exit x b h z = elim (says? (says_plain (x ∷ b))) [
  | yes p ↦
      let (k, s, r, e, f, _) = last_fail (says_same 1) (x ∷ b) z in
      plain_exit x b h p s (subst (λ l. s ∈ l) (sym e) (Memᴰ.append_right k here)) f
  | no p ↦ repeated_exit x b h p
]

-- The weak orders of n in rank form.
abbrev pub RankOf : ℕ → List ℕ → Type 0
RankOf n w = (length w ≡ n) × (is_rank w ≡ true)

abbrev pub depth1 : ℕ → List ℕ → ℕ
depth1 n w = total (weight n) w

depth_less : (n x y : ℕ) (b : List ℕ) → weight n x < weight n y → depth1 n (x ∷ b) < depth1 n (y ∷ b)
unfolding total
depth_less n x y b lt = omega arith

module _ (m : ℕ) where
  abbrev n : ℕ
  n = suc m

  abbrev ones : List ℕ
  ones = replicate n 1

  abbrev τ : List ℕ → List ℕ
  τ = change rule1

  ones_rank : Rank ones
  ones_rank v k = rw (mem_replicate n 1 v k) (omega (
    arith,
    below_zero ones,
    below-flat ones 0 1 (omega arith) (λ x k' l. omega (arith, mem_replicate n 1 x k')),
  ))

  change_in : (w : List ℕ) → RankOf n w → RankOf n (τ w)
  unfolding change
  change_in [] (e, h) = absurd (omega arith)
  change_in (x ∷ b) (e, h) = (e, (says_rank _).of (rank_change x b ((says_rank (x ∷ b)).to h)))

  one_exit : (w v : List ℕ) → RankOf n w → Exit1 w → w ⟳ v → Exit1 v → v ≡ w
  one_exit [] v (e, h) r c s = absurd (omega arith)
  one_exit (x ∷ b) [] (e, h) r c s = absurd (omega (arith, length_rotated c))
  one_exit (x ∷ b) (y ∷ d) (e, h) r c s = one_exit1 x b y d ((says_rank (x ∷ b)).to h) r c s

  -- A window of ones only is no exit.
  no_exit : (v : List ℕ) → ones ⟳ v → ¬ Exit1 v
  no_exit [] c t = absurd (omega (arith, length_rotated c))
  no_exit (x ∷ b) c t =
      let e : x ≡ 1 = mem_replicate n 1 x (mem_rotated c x here) in
      ⊎_elim (λ c1. omega (arith, c1.is, (num_mem (x ∷ b) 1).1 (Memᴰ.head (sym e)))) (λ c3. omega (arith, c3.big)) ((says_exit1 x b).to t)

  detour : (w : List ℕ) → RankOf n w → ¬ Exit1 w → Home τ (depth1 n) Exit1 w (τ w)
  unfolding change
  detour [] (e, h) t = absurd (omega arith)
  detour (x ∷ b) (e, h) t = ⊎_elim
      (λ i. home (ap (λ y. y ∷ b) i))
      (λ (hi, q). rw q.rises (via (hi ∷ b) q.exit (depth_less n x hi b (q.deeper n (omega arith))) (home (ap (λ y. y ∷ b) q.falls))))
      (other_partner x b ((says_rank (x ∷ b)).to h) t)

  up : (w : List ℕ) → RankOf n w →
      (ones ⟳ w) ⊎ ((x : List ℕ) × RankOf n x × (depth1 n x < depth1 n w) × (y : List ℕ) × Leads τ Exit1 x y × (w ⟳ y))
  unfolding change
  up [] (e, h) = absurd (omega arith)
  up (x ∷ b) (e, h) = elim (says? (says_all (says_same 1) (x ∷ b))) [
    | yes z ↦ inl (stay (sym (all_same 1 (x ∷ b) z ∙ ap (λ k. replicate k 1) e)))
    | no z ↦
        let (y, d, c, ex) = class_exit x b ((says_rank (x ∷ b)).to h) z in
        let (lo, q) = exit_partner y d (rank_rotated c ((says_rank (x ∷ b)).to h)) ex in
        inr (
          lo ∷ d,
          (omega (arith, length_rotated c), (says_rank (lo ∷ d)).of q.rank_lo),
          omega (arith, depth_less n lo y d (q.deeper n (omega (arith, length_rotated c))), total_rotated (weight n) c),
          y ∷ d,
          first (ap (λ z. z ∷ d) (sym q.rises)) ex,
          c,
        )
  ]

  pub joined1 : Joined (RankOf (suc m)) turn (change rule1) (depth1 (suc m)) Exit1 (replicate (suc m) 1)
  joined1 = record {
    root_in = (length-replicate n 1, (says_rank ones).of ones_rank);
    ρ_in = λ w (e, h). (length_rotated turned ∙ e, (says_rank _).of (rank_rotated turned ((says_rank w).to h)));
    τ_in = change_in;
    round = λ w p. round w;
    level = λ w p. total_rotated (weight n) turned;
    deepest = n * suc n;
    bounded = λ w (e, h). rw e at (total_le (weight n) (suc n) w (λ x k. weight_le n x));
    exit? = λ w p. true? (exit1 w);
    one_exit = λ p r c s. one_exit _ _ p r c s;
    no_exit = λ c. no_exit _ c;
    detour = detour;
    up = up;
  }
