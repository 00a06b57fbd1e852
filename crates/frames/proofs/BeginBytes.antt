-- A begin frame is what its fields make. Assumes nothing.
use mathlib.Core.Bool.{Bool, true, cond}
use mathlib.Core.List.{List, [], ◌∷◌, ◌++◌}
use mathlib.Core.Path.{◌≡◌, refl, sym, ap, ap₂, ◌∙◌}
use Prim.Native.Nat.{ℕ, zero, suc, ◌+◌, ◌*◌, ◌/◌, ◌%◌, ◌<◌}
use native.Mathlib.Omega.{arith}
use lib.Dec.{leb, ltb, eqb}
use lib.IntN.{ℤ}
use lib.ListN.{length, take, drop, replicate, length-drop, take-append-drop}
use lib.Seq.{length-take-le, take-length, drop-cons, drop-drop}
use borrow.Author.Tests.{ltb-true, leb-true}
use Rattle.weak_orders.specs.Window.{all}
use Rattle.weak_orders.proofs.Tests.{says_and, says_itself}
use Rattle.frames.specs.Fields.{byte, part, zeros, unsigned16, is_bytes}
use Rattle.frames.specs.Question.{wko1, wko2, is_second, kind_in, letter_b, length_in, rule_in, round_number_in, setting_in, window_in, begin_bytes}
use Rattle.frames.proofs.ByteTests.{says_same_bytes}
use Rattle.frames.proofs.Padding.{zeros_are}
use Rattle.frames.proofs.Signed.{bits_signed}

-- two bytes are a number of 16 bits, and it gives them back
pub bytes_unsigned : (x : ℕ) → x % 256 + 256 * (x / 256) ≡ x
bytes_unsigned x = omega arith

low_byte : (a b : ℕ) → a < 256 → (a + 256 * b) % 256 ≡ a
low_byte a b h = omega arith

high_byte : (a b : ℕ) → a < 256 → (a + 256 * b) / 256 ≡ b
high_byte a b h = omega arith

-- the letters of the second version
pub second_header : (f : List ℕ) → is_second f ≡ true → part f 0 4 ≡ wko2
unfolding is_second
second_header f t = ((says_and (says_itself (eqb (length f) 40)) (says_same_bytes (part f 0 4) wko2)).to t).1

bytes_small : (g : List ℕ) → is_bytes g ≡ true → (i : ℕ) → byte g i < 256
unfolding is_bytes all
bytes_small [] t i = omega arith
bytes_small (x ∷ g) t zero = ltb-true x 256 ((says_and (says_itself (ltb x 256)) (says_itself (is_bytes g))).to t).0
bytes_small (x ∷ g) t (suc i) = bytes_small g ((says_and (says_itself (ltb x 256)) (says_itself (is_bytes g))).to t).1 i

module _ (g : List ℕ) (long : length g ≡ 40) where
  pub window_long : length (window_in g) ≡ 16
  unfolding window_in part
  window_long = length-take-le 16 (drop 24 g) (omega (arith, length-drop 24 g))

  pub window_last : drop 24 g ≡ window_in g
  unfolding window_in part
  window_last =
      let l : length (drop 24 g) ≡ 16 = omega (arith, length-drop 24 g) in
      sym (rw l at (take-length (drop 24 g)))

  -- the bytes from i on, by what stands behind: one byte, or k zeros
  byte_then : {l : List ℕ} (i : ℕ) → ltb i 40 ≡ true → drop (suc i) g ≡ l → drop i g ≡ byte g i ∷ l
  byte_then i h e = drop-cons g i 0 (omega (arith, ltb-true i 40 h)) ∙ ap (λ l. byte g i ∷ l) e

  zeros_then : {l : List ℕ} (i k : ℕ) → leb (i + k) 40 ≡ true → zeros (part g i k) ≡ true → drop (i + k) g ≡ l → drop i g ≡ replicate k 0 ++ l
  unfolding part
  zeros_then i k h z e =
      let p = take k (drop i g) in
      let l : length p ≡ k = length-take-le k (drop i g) (omega (arith, length-drop i g, leb-true (i + k) 40 h)) in
      sym (take-append-drop k (drop i g)) ∙ ap₂ ◌++◌ (zeros_are p z ∙ ap (λ m. replicate m 0) l) (drop-drop k i g ∙ e)

  -- A begin frame of either version, whose bytes that must be zero are, is what its fields make.
  pub frame_back : (second : Bool) (t : List ℤ) → is_bytes g ≡ true → part g 0 4 ≡ cond second wko2 wko1 → kind_in g ≡ letter_b →
      zeros (part g 8 8) ≡ true → zeros (part g 20 4) ≡ true →
      begin_bytes second (length_in g) (rule_in g) (round_number_in g) (setting_in g t) (window_in g) ≡ g
  unfolding begin_bytes setting_in part
  frame_back second t small header kind z₈ z₂₀ =
      let b = bytes_small g small in
      let levels = byte_then 16 refl (byte_then 17 refl (byte_then 18 refl (byte_then 19 refl (zeros_then 20 4 refl z₂₀ window_last)))) in
      let fields = byte_then 4 refl (byte_then 5 refl (byte_then 6 refl (byte_then 7 refl (zeros_then 8 8 refl z₈ levels)))) in
      rw (
        bits_signed (unsigned16 g 16) (omega (arith, b 16, b 17)),
        low_byte (byte g 16) (byte g 17) (b 16),
        high_byte (byte g 16) (byte g 17) (b 16),
        low_byte (byte g 18) (byte g 19) (b 18),
        high_byte (byte g 18) (byte g 19) (b 18),
        ← kind,
      )
      (sym (sym (take-append-drop 4 g) ∙ ap₂ ◌++◌ header fields))
