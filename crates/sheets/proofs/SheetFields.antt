-- The fields of the second line one after the other, as the functions answer them. Assumes nothing.
use mathlib.Core.List.{List}
use mathlib.Core.Path.{◌≡◌}
use Prim.Native.Nat.{ℕ, ◌+◌, ◌≤◌}
use native.Mathlib.Omega.{arith}
use lib.IntN.{ℤ}
use lib.ListN.{length, drop}
use lib.Seq.{drop-drop}
use Rattle.decimals.specs.Reading.{found, missing, Reader, both, ended, numbers}
use Rattle.std.specs.Prelude.{Some}
use Rattle.decimals.specs.Held.{taken_as, numbers_of}
use Rattle.decimals.specs.declared.NumberList.{NumberList}
use Rattle.sheets.specs.Sheet.{Fields, length_and_rule, top_and_spacing, fields, sheet_of}
use Rattle.sheets.specs.Held.{sheet_held}
use Rattle.decimals.proofs.Answers.{both-none, both_one, both_found}
use Rattle.decimals.proofs.Readers.{takes_within, further_within}
use Rattle.sheets.proofs.SheetTexts.{reads_length_and_rule, reads_top_and_spacing, reads_list}

-- ---- the second line

module _ (s : List ℕ) where
  abbrev rest : Reader ((ℤ × ℕ) × List ℕ)
  rest = both top_and_spacing (ended (numbers 16) 10)

  pub no_first : length_and_rule s ≡ missing → fields s ≡ missing
  unfolding fields
  no_first e = both-none length_and_rule rest s e

  module _ {x : ℕ × ℕ} {a : ℕ} (e₁ : length_and_rule s ≡ found x a) where
    pub first_end : a ≤ length s
    first_end = takes_within (reads_length_and_rule.sound s x a e₁).0

    pub no_second : top_and_spacing (drop a s) ≡ missing → fields s ≡ missing
    unfolding fields
    no_second e = both_one length_and_rule rest s e₁ (both-none top_and_spacing (ended (numbers 16) 10) (drop a s) e)

    module _ {y : ℤ × ℕ} {b : ℕ} (e₂ : top_and_spacing (drop a s) ≡ found y b) where
      pub second_end : a + b ≤ length s
      second_end = further_within reads_top_and_spacing s a e₂ first_end

      pub no_start : ended (numbers 16) 10 (drop (a + b) s) ≡ missing → fields s ≡ missing
      unfolding fields
      no_start e =
          both_one length_and_rule rest s e₁ (both_one top_and_spacing (ended (numbers 16) 10) (drop a s) e₂ (rw (drop-drop b a s) e))

      module _ {start : List ℕ} {k : ℕ} (e₃ : ended (numbers 16) 10 (drop (a + b) s) ≡ found start k) where
        pub start_end : a + b + k ≤ length s
        start_end = further_within reads_list s (a + b) e₃ second_end

        pub all-fields : fields s ≡ found (x, (y, start)) (a + b + k)
        unfolding fields
        all-fields =
            let sum : a + (b + k) ≡ a + b + k = omega arith in
            let e : ended (numbers 16) 10 (drop b (drop a s)) ≡ found start k = rw (drop-drop b a s) e₃ in
            rw sum at (both_found length_and_rule rest s e₁ (both_found top_and_spacing (ended (numbers 16) 10) (drop a s) e₂ e))

pub fields_taken : (s : List ℕ) {z : Fields} {k : ℕ} (start : NumberList) → fields s ≡ found z k → start ≡ numbers_of z.1.1 →
    Some (record { value = record { n = z.0.0; rule = z.0.1; top = z.1.0.0; spacing = z.1.0.1; start = start }; len = k })
    ≡ taken_as (λ x. sheet_held (sheet_of x)) (fields s)
fields_taken s start e h = rw (e, h)
