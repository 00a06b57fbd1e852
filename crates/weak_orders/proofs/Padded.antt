-- Arrays of sixteen that are filled from the front: symbols, and zeros behind. Assumes nothing.
use mathlib.Core.List.{List, [], ◌∷◌, ◌++◌, map}
use mathlib.Core.Path.{◌≡◌, refl, sym, ap, ◌∙◌}
use Prim.Native.Nat.{ℕ, suc, ◌+◌, ◌-◌, ◌<◌, ◌≤◌}
use native.Mathlib.Omega.{arith}
use native.Mathlib.Numerals.{add-one}
use lib.ListN.{length, take, drop, get_or, set, replicate, length-append, length-replicate, length-drop, length-map, get_or-append}
use Rattle.std.proofs.lemmas.List.{drop-replicate}
use lib.Seq.{length-take-le, set_at, append_snoc, take-suc, take_at, take_all, drop_at, get_or-drop, get_or-take, get_or_at}
use Rattle.weak_orders.specs.Window.{padded, shifted}
use Rattle.weak_orders.proofs.Lists.{get_or_map}

pub padded_nil : replicate 16 0 ≡ padded []
unfolding padded
padded_nil = refl

pub length-padded : (w : List ℕ) → length w ≤ 16 → length (padded w) ≡ 16
unfolding padded
length-padded w le = omega (arith, length-append w (replicate (16 - length w) 0), length-replicate {A = ℕ} (16 - length w) 0)

-- what is filled is found again, and what lies behind is zero
pub take-padded : (w : List ℕ) (n : ℕ) → length w ≡ n → take n (padded w) ≡ w
unfolding padded
take-padded w n e = take_at w (replicate (16 - length w) 0) n e

pub drop-padded : (w : List ℕ) (n : ℕ) → length w ≡ n → drop n (padded w) ≡ replicate (16 - n) 0
unfolding padded
drop-padded w n e = drop_at w (replicate (16 - length w) 0) n e ∙ ap (λ (k : ℕ). replicate (16 - k) 0) e

-- a list copied into the front of zeros
pub padded_over : (p : List ℕ) (k : ℕ) → length p ≡ k → p ++ drop k (replicate 16 0) ≡ padded p
unfolding padded
padded_over p k e = ap (λ (l : List ℕ). p ++ l) (drop-replicate k 16 0 ∙ ap (λ (m : ℕ). replicate (16 - m) 0) (sym e))

-- one symbol more
pub padded_snoc : (p : List ℕ) (i x : ℕ) → length p ≡ i → i < 16 → set (padded p) i x ≡ padded (p ++ (x ∷ []))
unfolding padded
padded_snoc p i x e lt =
    let q : 16 - length p ≡ suc (16 - length (p ++ (x ∷ []))) = omega (arith, length-append p (x ∷ [])) in
    ap (λ (m : ℕ). set (p ++ replicate m 0) i x) q
    ∙ set_at p 0 (replicate (16 - length (p ++ (x ∷ []))) 0) x i e
    ∙ sym (append_snoc p x (replicate (16 - length (p ++ (x ∷ []))) 0))

-- a loop that fills an array with the list l: one turn, and the end
pub padded-next : (l v : List ℕ) (i x : ℕ) → i < length l → length l ≤ 16 → v ≡ padded (take i l) → x ≡ get_or l i 0 →
    set v i x ≡ padded (take (i + 1) l)
padded-next l v i x lt le e q =
    ap (λ (u : List ℕ). set u i x) e
    ∙ padded_snoc (take i l) i x (length-take-le i l (omega arith)) (omega arith)
    ∙ rw (q, add-one, take-suc l i 0 lt)

pub padded-all : (l v : List ℕ) (i : ℕ) → i ≡ length l → v ≡ padded (take i l) → v ≡ padded l
padded-all l v i q e = e ∙ ap padded (take_all i l (omega arith))

-- the same where the list is the first n symbols of an array, each mapped
pub padded-map : (f : ℕ → ℕ) (w v : List ℕ) (n i x : ℕ) → length w ≡ 16 → n ≤ 16 → i < n → v ≡ padded (take i (map f (take n w))) →
    x ≡ f (get_or w i 0) → set v i x ≡ padded (take (i + 1) (map f (take n w)))
padded-map f w v n i x l h lt e q =
    let u = take n w in
    let size = length-take-le n w (omega arith) in
    let long = length-map u f in
    padded-next (map f u) v i x (omega arith) (omega arith) e (q ∙ ap f (sym (get_or-take n w i 0 lt)) ∙ sym (get_or_map f u i (omega arith)))

pub padded_mapped : (f : ℕ → ℕ) (w v : List ℕ) (n i : ℕ) → length w ≡ 16 → n ≤ 16 → i ≡ n → v ≡ padded (take i (map f (take n w))) →
    v ≡ padded (map f (take n w))
padded_mapped f w v n i l h q e =
    padded-all (map f (take n w)) v i (omega (arith, length-take-le n w (omega arith), length-map (take n w) f)) e

-- the window after a shift: its length, its symbols but the last, and the last
module _ (w : List ℕ) (n s : ℕ) (l : length w ≡ 16) (pos : 1 ≤ n) (h : n ≤ 16) where
  rest : length (drop 1 (take n w)) ≡ n - 1
  rest = length-drop 1 (take n w) ∙ ap (λ (m : ℕ). m - 1) (length-take-le n w (omega arith))

  pub shifted-length : length (shifted (take n w) s) ≡ n
  unfolding shifted
  shifted-length = omega (arith, length-append (drop 1 (take n w)) (s ∷ []), rest)

  pub shifted_at : (i : ℕ) → i + 1 < n → get_or w (i + 1) 0 ≡ get_or (shifted (take n w) s) i 0
  unfolding shifted
  shifted_at i lt =
      let e : i + 1 ≡ 1 + i = omega arith in
      ap (λ (k : ℕ). get_or w k 0) e
      ∙ sym (get_or-append (drop 1 (take n w)) (s ∷ []) 0 i (omega (arith, rest))
      ∙ get_or-drop 1 (take n w) i 0 ∙ get_or-take n w (1 + i) 0 (omega arith))

  pub shifted_last : (i : ℕ) → i + 1 ≡ n → s ≡ get_or (shifted (take n w) s) i 0
  unfolding shifted
  shifted_last i e = sym (get_or_at (drop 1 (take n w)) s [] 0 i (omega (arith, rest)))
