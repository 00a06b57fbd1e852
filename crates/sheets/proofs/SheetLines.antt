-- The two lines of a sheet, and the sheet that is a whole text, as the functions answer them. Assumes nothing.
use mathlib.Core.Bool.{true, false}
use mathlib.Core.List.{List}
use mathlib.Core.Option.{none}
use mathlib.Core.Path.{◌≡◌}
use Prim.Native.Nat.{ℕ, ◌+◌, ◌≤◌, ◌<◌}
use native.Mathlib.Omega.{arith}
use lib.ListN.{length, drop}
use borrow.Author.Tests.{eq-eqb, ne_eqb, le-leb, lt-leb}
use Rattle.std.specs.Prelude.{Some, None}
use Rattle.decimals.specs.Reading.{Found, found, missing, further}
use Rattle.decimals.specs.Held.{taken_as}
use Rattle.decimals.specs.declared.Taken.{Taken}
use Rattle.sheets.specs.Sheet.{RawSheet, title_line, has_title, Fields, fields, sheet_of, sheet_lines, wholly, parse}
use Rattle.sheets.specs.Held.{sheet_held, parsed_of}
use Rattle.sheets.specs.declared.sheet.Sheet.{Sheet}
use Rattle.decimals.proofs.Cursors.{begins_long}
use Rattle.decimals.proofs.Readers.{takes_within}
use Rattle.decimals.proofs.Answers.{found_as, not_as, behind-other, behind_here}
use Rattle.sheets.proofs.SheetTexts.{reads_fields}

-- ---- the first line

module _ (s : List ℕ) where
  pub title_long : has_title s ≡ true → 25 ≤ length s
  unfolding has_title
  title_long e = begins_long title_line s e

  pub other_title : has_title s ≡ false → sheet_lines s ≡ missing
  unfolding sheet_lines has_title
  other_title e = behind-other title_line sheet_of fields s e

  pub same_title : has_title s ≡ true → sheet_lines s ≡ further 25 sheet_of (fields (drop 25 s))
  unfolding sheet_lines has_title
  same_title e = behind_here title_line sheet_of fields s e

-- ---- the second line, behind the first

-- the fields, in a sheet's struct
abbrev pub fields_held : Fields → Sheet
fields_held z = sheet_held (sheet_of z)

pub second-missing : (f : Found Fields) → None ≡ taken_as fields_held f → further 25 sheet_of f ≡ missing
unfolding further
second-missing f e = rw (not_as fields_held f e)

pub second_found : {l : Taken Sheet} (f : Found Fields) → Some l ≡ taken_as fields_held f →
    Some (record { value = l.value; len = l.len + 25 }) ≡ taken_as sheet_held (further 25 sheet_of f)
unfolding further
second_found {l} f e = let (x, q, v) = found_as fields_held {t = l} f e in go x q v
  where
    go : (x : Fields) → f ≡ found x l.len → l.value ≡ fields_held x →
        Some (record { value = l.value; len = l.len + 25 }) ≡ taken_as sheet_held (further 25 sheet_of f)
    go x q v = let sum : l.len + 25 ≡ 25 + l.len = omega arith in rw (q, v, sum)

pub second_within : (s : List ℕ) {l : Taken Sheet} → Some l ≡ taken_as fields_held (fields s) → l.len ≤ length s
second_within s {l} e =
    let (x, q, _) = found_as fields_held {t = l} (fields s) e in
    takes_within (reads_fields.sound s x l.len q).0

-- ---- the whole text

module _ (s : List ℕ) where
  pub parse_long : 128 < length s → parse s ≡ none
  unfolding parse
  parse_long h = rw (lt-leb (length s) 128 h)

  module _ (h : length s ≤ 128) where
    pub parse-missing : None ≡ taken_as sheet_held (sheet_lines s) → parse s ≡ none
    unfolding parse wholly
    parse-missing e = rw (le-leb (length s) 128 h, not_as sheet_held (sheet_lines s) e)

    module _ {l : Taken Sheet} (e : Some l ≡ taken_as sheet_held (sheet_lines s)) where
      pub parse-part : ¬ (l.len ≡ length s) → parse s ≡ none
      unfolding parse wholly
      parse-part n =
          let (x, f, _) = found_as sheet_held {t = l} (sheet_lines s) e in
          rw (le-leb (length s) 128 h, f, ne_eqb l.len (length s) n)

      pub parse_whole : l.len ≡ length s → Some l.value ≡ parsed_of (parse s)
      unfolding parse wholly
      parse_whole q = let (x, f, y) = found_as sheet_held {t = l} (sheet_lines s) e in go x f y
        where
          go : (x : RawSheet) → sheet_lines s ≡ found x l.len → l.value ≡ sheet_held x → Some l.value ≡ parsed_of (parse s)
          go x f y = rw (le-leb (length s) 128 h, f, eq-eqb l.len (length s) q, y)
