-- The lines of a level file: what is read is what was written. Assumes nothing.
use mathlib.Core.Bool.{true}
use mathlib.Core.List.{List, [], ◌∷◌, ◌++◌}
use mathlib.Core.Path.{◌≡◌, refl, ap}
use Prim.Native.Nat.{ℕ, zero, suc, ◌+◌, ◌*◌, ◌≤◌}
use native.Mathlib.Omega.{arith}
use lib.Dec.{eqb}
use lib.IntN.{ℤ, pos, negsuc, nat_abs}
use lib.ListN.{length, length-append}
use borrow.Author.Tests.{eq-eqb, eqb-true}
use Rattle.weak_orders.proofs.Tests.{◌∈◌, here, there, nowhere, split_mem, by_test}
use Rattle.levels.specs.Table.{level_allowed}
use Rattle.levels.proofs.Tables.{allowed_size}
use Rattle.decimals.specs.Text.{decimal, signed}
use Rattle.decimals.specs.Reading.{Found, found, missing, further, both}
use Rattle.decimals.proofs.Digits.{decimal_width}
use Rattle.decimals.proofs.Readers.{Takes, Reads, not_found, reads_number_until, reads_signed_until, reads_both}
use Rattle.level_files.specs.LevelFile.{level_lines, level_line, line_of, levels}

-- an allowed level has at most six digits
pub allowed_short : (z : ℤ) → level_allowed z ≡ true → length (decimal (nat_abs z)) ≤ 6
allowed_short z e = decimal_width 5 (nat_abs z) (omega (arith, allowed_size z e))

-- ---- one line

abbrev Short : ℤ → Type 0
Short z = length (decimal (nat_abs z)) ≤ 6

abbrev line_text : ℕ → ℤ → List ℕ
line_text d z = (decimal d ++ (32 ∷ [])) ++ (signed z ++ (10 ∷ []))

pub reads_line : Reads level_line (λ x. line_text x.0 x.1) (λ x. (length (decimal x.0) ≤ 6) × Short x.1) (λ r. Unit {0})
unfolding level_line
reads_line = reads_both (reads_number_until 32 refl) (reads_signed_until 10 refl)

signed_width : (z : ℤ) → Short z → length (signed z) ≤ 7
unfolding signed
signed_width (pos n) h = omega arith
signed_width (negsuc n) h = omega arith

-- the line of d
module _ (d : ℕ) where
  line_sound : (s : List ℕ) (z : ℤ) (k : ℕ) → line_of d (level_line s) ≡ found z k → Takes (line_text d z) s k × ((length (decimal d) ≤ 6) × Short z)
  unfolding line_of
  line_sound s z k e = go (level_line s) refl e
    where
      go : (f : Found (ℕ × ℤ)) → level_line s ≡ f → line_of d f ≡ found z k → Takes (line_text d z) s k × ((length (decimal d) ≤ 6) × Short z)
      go missing r e = not_found z k e
      go (found (c, y) m) r e = by_test (eqb c d)
          (λ t.
          let q : found y m ≡ found z k = rw t at e in
          let z' : z ≡ y = cc in
          let k' : k ≡ m = cc in
          rw (z', k', ← eqb-true c d t) (reads_line.sound s (c, y) m r))
          (λ t. not_found z k (rw t at e))

  line_complete : (z : ℤ) (r : List ℕ) → (length (decimal d) ≤ 6) × Short z → Unit {0} →
      line_of d (level_line (line_text d z ++ r)) ≡ found z (length (line_text d z))
  unfolding line_of
  line_complete z r o _ = rw (reads_line.complete (d, z) r o tt, eq-eqb d d refl)

  pub reads_line_of : Reads (λ r. line_of d (level_line r)) (line_text d) (λ z. (length (decimal d) ≤ 6) × Short z) (λ r. Unit {0})
  reads_line_of = record { sound = line_sound; complete = line_complete }

-- ---- the lines

-- so many levels, each of at most six digits
abbrev pub Writable : ℕ → List ℤ → Type 0
Writable m t = (length t ≡ m) × ((z : ℤ) → z ∈ t → Short z)

-- one line before others
module _ (m d : ℕ) (h : length (decimal d) ≤ 6) (rest : Reads (levels m (suc d)) (level_lines (suc d)) (Writable m) (λ r. Unit {0})) where
  pair : Reads (both (λ r. line_of d (level_line r)) (levels m (suc d))) (λ x. line_text d x.0 ++ level_lines (suc d) x.1)
      (λ x. ((length (decimal d) ≤ 6) × Short x.0) × Writable m x.1) (λ r. Unit {0})
  pair = reads_both (reads_line_of d) rest

  more_sound : (s : List ℕ) (t : List ℤ) (k : ℕ) → levels (suc m) d s ≡ found t k → Takes (level_lines d t) s k × Writable (suc m) t
  unfolding levels level_lines further
  more_sound s t k e = go (both (λ r. line_of d (level_line r)) (levels m (suc d)) s) refl e
    where
      go : (f : Found (ℤ × List ℤ)) → both (λ r. line_of d (level_line r)) (levels m (suc d)) s ≡ f →
          further 0 (λ (x : ℤ × List ℤ). x.0 ∷ x.1) f ≡ found t k → Takes (level_lines d t) s k × Writable (suc m) t
      go missing r e = not_found t k e
      go (found (z, l) j) r e =
          let t' : t ≡ z ∷ l = cc in
          let k' : k ≡ 0 + j = cc in
          let j' : 0 + j ≡ j = omega arith in
          let (i, ((_, o), (n, each))) = pair.sound s (z, l) j r in
          rw (t', k', j') (i, (ap suc n, λ y w. split_mem (λ q. rw q o) (each y) w))

  more_complete : (t : List ℤ) (r : List ℕ) → Writable (suc m) t → Unit {0} → levels (suc m) d (level_lines d t ++ r) ≡ found t (length (level_lines d t))
  unfolding levels level_lines further
  more_complete [] r (n, _) _ = absurd (omega arith)
  more_complete (z ∷ l) r (n, each) _ =
      let tail : Writable m l = (omega arith, λ y i. each y (there i)) in
      rw (pair.complete (z, l) r ((h, each z here), tail) tt) (ap (found (z ∷ l)) (omega arith))

  reads_more : Reads (levels (suc m) d) (level_lines d) (Writable (suc m)) (λ r. Unit {0})
  reads_more = record { sound = more_sound; complete = more_complete }

none_sound : (d : ℕ) (s : List ℕ) (t : List ℤ) (k : ℕ) → levels zero d s ≡ found t k → Takes (level_lines d t) s k × Writable zero t
unfolding levels level_lines
none_sound d s t k e =
    let t' : t ≡ [] = cc in
    let k' : k ≡ 0 = cc in
    rw (t', k') (record { front = refl; size = refl }, (refl, λ z i. nowhere i))

none_complete : (d : ℕ) (t : List ℤ) (r : List ℕ) → Writable zero t → Unit {0} → levels zero d (level_lines d t ++ r) ≡ found t (length (level_lines d t))
unfolding levels level_lines
none_complete d [] r o _ = refl
none_complete d (z ∷ t) r (n, _) _ = absurd (omega arith)

pub reads_levels : (m d : ℕ) → d + m ≤ 100 → Reads (levels m d) (level_lines d) (Writable m) (λ r. Unit {0})
reads_levels zero d h = record { sound = none_sound d; complete = none_complete d }
reads_levels (suc m) d h = reads_more m d (omega (arith, decimal_width 1 d (omega arith))) (reads_levels m (suc d) (omega arith))

-- at most eleven bytes a line
pub lines_width : (d : ℕ) (t : List ℤ) → d + length t ≤ 100 → ((z : ℤ) → z ∈ t → Short z) → length (level_lines d t) ≤ length t * 11
unfolding level_lines
lines_width d [] h each = omega arith
lines_width d (z ∷ t) h each = omega (
  arith,
  length-append (line_text d z) (level_lines (suc d) t),
  length-append (decimal d ++ (32 ∷ [])) (signed z ++ (10 ∷ [])),
  length-append (decimal d) (32 ∷ []),
  length-append (signed z) (10 ∷ []),
  decimal_width 1 d (omega arith),
  signed_width z (each z here),
  lines_width (suc d) t (omega arith) (λ y i. each y (there i)),
)
