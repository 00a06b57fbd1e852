-- A level file as a whole: the answer that is read, and that a file reads as a table just if it is its text. Assumes nothing.
use mathlib.Core.Bool.{true, false, cond, ◌&&◌}
use mathlib.Core.List.{List, [], append-nil}
use mathlib.Core.Option.{none, some}
use mathlib.Core.Path.{◌≡◌, refl, sym, ◌∙◌}
use Prim.Native.Nat.{ℕ, ◌+◌, ◌≤◌, ◌<◌}
use native.Mathlib.Omega.{arith}
use lib.Dec.{leb, eqb}
use lib.IntN.{ℤ}
use lib.ListN.{length, drop, length-append, drop_of_length-le}
use borrow.Author.Tests.{eq-eqb, le-leb, lt-leb}
use Rattle.weak_orders.specs.Window.{all}
use Rattle.weak_orders.proofs.Tests.{by_test, says_and, says_eq, says_itself}
use Rattle.weak_orders.proofs.Lists.{all_in}
use Rattle.levels.specs.Table.{level_allowed, falls, table_ok}
use Rattle.levels.proofs.Tables.{says_table}
use Rattle.decimals.specs.Reading.{Found, found, missing, further, begins_with, behind}
use Rattle.decimals.proofs.Readers.{Reads, reads_behind}
use Rattle.decimals.proofs.Answers.{behind-other, behind_here}
use Rattle.std.specs.Prelude.{Some, None}
use Rattle.std.proofs.lemmas.Option.{none-some, same_Some}
use Rattle.decimals.specs.declared.Taken.{Taken}
use Rattle.level_files.specs.LevelFile.{title_line, level_lines, table_text, levels, wholly, read_table, ReadsTable}
use Rattle.level_files.specs.Held.{lines_of}
use Rattle.level_files.proofs.LevelTexts.{Writable, allowed_short, reads_levels, lines_width}

-- ---- the answer

module _ (s : List ℕ) where
  pub file_long : 512 < length s → read_table s ≡ none
  unfolding read_table
  file_long h = rw (lt-leb (length s) 512 h)

  module _ (short : length s ≤ 512) where
    pub other_title : begins_with title_line s ≡ false → read_table s ≡ none
    unfolding read_table wholly
    other_title e = rw (le-leb (length s) 512 short, behind-other title_line (λ (t : List ℤ). t) (levels 16 0) s e)

    module _ (begun : begins_with title_line s ≡ true) where
      same_title : read_table s ≡ wholly (length s) (further 8 (λ (t : List ℤ). t) (levels 16 0 (drop 8 s)))
      unfolding read_table
      same_title = rw (le-leb (length s) 512 short, behind_here title_line (λ (t : List ℤ). t) (levels 16 0) s begun)

      pub no_lines : None ≡ lines_of (levels 16 0 (drop 8 s)) → read_table s ≡ none
      unfolding wholly lines_of further table_ok
      no_lines e = same_title ∙ go (levels 16 0 (drop 8 s)) e
        where
          go : (f : Found (List ℤ)) → None ≡ lines_of f → wholly (length s) (further 8 (λ (t : List ℤ). t) f) ≡ none
          go missing e = refl
          go (found t k) e = by_test (all level_allowed t)
              (λ a. absurd (none-some _ (rw a at e)))
              (λ a. rw a (by_test (eqb (8 + k) (length s)) (λ b. rw b (by_test (eqb (length t) 16) (λ n. rw n) (λ n. rw n))) (λ b. rw b)))

      -- the tests that the function makes are those that make a table of what was found
      pub some_lines : (l : Taken (List ℤ)) → Some l ≡ lines_of (levels 16 0 (drop 8 s)) →
          read_table s ≡ cond (eqb (8 + l.len) (length s) && falls l.value) (some l.value) none
      unfolding wholly lines_of further table_ok
      some_lines l e = same_title ∙ go (levels 16 0 (drop 8 s)) refl e
        where
          go : (f : Found (List ℤ)) → levels 16 0 (drop 8 s) ≡ f → Some l ≡ lines_of f →
              wholly (length s) (further 8 (λ (t : List ℤ). t) f) ≡ cond (eqb (8 + l.len) (length s) && falls l.value) (some l.value) none
          go missing r e = absurd (none-some _ (sym e))
          go (found t k) r e = by_test (all level_allowed t)
              (λ a.
              let q : Some l ≡ Some (record { value = t; len = k }) = rw a at e in
              let p = same_Some _ _ q in
              let (_, (n, _)) = (reads_levels 16 0 (omega arith)).sound (drop 8 s) t k r in
              rw (p, a, eq-eqb (length t) 16 n))
              (λ a. absurd (none-some _ (sym (rw a at e))))

-- ---- the whole file

reads_file : Reads (behind title_line (λ (t : List ℤ). t) (levels 16 0)) table_text (Writable 16) (λ r. Unit {0})
unfolding table_text
reads_file = reads_behind title_line (λ t. t) (λ t. t) (λ t. refl) (λ t. refl) (reads_levels 16 0 (omega arith))

file_sound : (s : List ℕ) (t : List ℤ) → read_table s ≡ some t → (s ≡ table_text t) × (table_ok t ≡ true)
unfolding read_table wholly
file_sound s t e = by_test (leb (length s) 512)
    (λ c. go (behind title_line (λ (t : List ℤ). t) (levels 16 0) s) refl (rw c at e))
    (λ c. not_some (rw c at e))
  where
    not_some : {B : Type 0} → none ≡ some t → B
    not_some e = absurd (let z : ◌≡◌ {A = ℕ} 0 1 = cc in omega arith)

    go : (f : Found (List ℤ)) → behind title_line (λ (t : List ℤ). t) (levels 16 0) s ≡ f → wholly (length s) f ≡ some t →
        (s ≡ table_text t) × (table_ok t ≡ true)
    go missing r e = not_some e
    go (found l k) r e = by_test (eqb k (length s) && table_ok l)
        (λ c.
        let (whole, ok) = (says_and (says_eq k (length s)) (says_itself (table_ok l))).to c in
        let q : some l ≡ some t = rw c at e in
        let t' : t ≡ l = cc in
        let all : drop k s ≡ [] = drop_of_length-le s {i = k} (omega arith) in
        rw t' ((reads_file.sound s l k r).0.front ∙ rw all (append-nil (table_text l)), ok))
        (λ c. not_some (rw c at e))

-- the text of a good table is not too long
text_size : (t : List ℤ) → Writable 16 t → length (table_text t) ≤ 512
unfolding table_text
text_size t (n, each) = omega (arith, length-append title_line (level_lines 0 t), lines_width 0 t (omega arith) each)

file_complete : (s : List ℕ) (t : List ℤ) → (s ≡ table_text t) × (table_ok t ≡ true) → read_table s ≡ some t
unfolding read_table wholly
file_complete s t (e, ok) =
    let (n, (allowed, _)) = (says_table t).to ok in
    let o : Writable 16 t = (n, λ z i. allowed_short z (all_in level_allowed allowed i)) in
    let k : behind title_line (λ (t : List ℤ). t) (levels 16 0) s ≡ found t (length s) =
    rw e (rw (append-nil (table_text t)) at (reads_file.complete t [] o tt)) in
    rw (le-leb (length s) 512 (rw e (text_size t o)), k, eq-eqb (length s) (length s) refl, ok)

pub reads_table : ReadsTable
reads_table s t = (file_sound s t, file_complete s t)
