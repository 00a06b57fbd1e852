-- A text reads as a sheet just if it is the text of that sheet. Assumes nothing.
use mathlib.Core.Bool.{false}
use mathlib.Core.List.{List, [], ◌∷◌, ◌++◌, append-nil}
use mathlib.Core.Logic.{◌↔◌}
use mathlib.Core.Option.{none, some}
use mathlib.Core.Path.{◌≡◌, refl, ◌∙◌}
use Prim.Native.Nat.{ℕ, ◌≤◌}
use native.Mathlib.Omega.{arith}
use lib.Dec.{leb, eqb}
use lib.IntN.{nat_abs}
use lib.ListN.{length, drop, drop_of_length-le}
use borrow.Author.Tests.{eq-eqb, eqb-true, le-leb, leb-true}
use Rattle.weak_orders.proofs.Tests.{by_test}
use Rattle.decimals.specs.Text.{decimal, signed, joined}
use Rattle.decimals.specs.Reading.{Found, found, missing, run, starts_with, ended, number, signed_number, numbers}
use Rattle.sheets.specs.Sheet.{RawSheet, title_line, spaced, sheet_text, Short, Within, IsText}
use Rattle.sheets.specs.Sheet.{length_and_rule, top_and_spacing, Fields, fields, sheet_of, sheet_lines, wholly, parse}
use Rattle.decimals.proofs.Readers.{Reads, Items, reads_number_until, reads_signed_until, reads_numbers, reads_ended, reads_both, reads_behind}

fields_of : RawSheet → Fields
fields_of x = ((x.n, x.rule), ((x.top, x.spacing), x.start))

-- a line feed ends a list
list_over : (r : List ℕ) → (run (10 ∷ r) ≡ 0) × (starts_with 44 (10 ∷ r) ≡ false)
unfolding run starts_with
list_over r = (refl, refl)

-- the fields of the second line
pub reads_field : Reads (ended number 32) (λ v. spaced (decimal v)) Short (λ r. Unit {0})
reads_field = reads_number_until 32 refl

pub reads_signed_field : Reads (ended signed_number 32) (λ z. spaced (signed z)) (λ z. Short (nat_abs z)) (λ r. Unit {0})
reads_signed_field = reads_signed_until 32 refl

pub reads_list : Reads (ended (numbers 16) 10) (λ l. joined l ++ (10 ∷ [])) (Items 16) (λ r. Unit {0})
reads_list = reads_ended 10 (reads_numbers 16) list_over

pub reads_length_and_rule : Reads length_and_rule
    (λ z. spaced (decimal z.0) ++ spaced (decimal z.1)) (λ z. Short z.0 × Short z.1) (λ r. Unit {0})
unfolding length_and_rule
reads_length_and_rule = reads_both reads_field reads_field

pub reads_top_and_spacing : Reads top_and_spacing
    (λ z. spaced (signed z.0) ++ spaced (decimal z.1)) (λ z. Short (nat_abs z.0) × Short z.1) (λ r. Unit {0})
unfolding top_and_spacing
reads_top_and_spacing = reads_both reads_signed_field reads_field

abbrev pub Limits : RawSheet → Type 0
Limits x = (Short x.n × Short x.rule) × ((Short (nat_abs x.top) × Short x.spacing) × Items 16 x.start)

pub reads_fields : Reads fields
    (λ z. (spaced (decimal z.0.0) ++ spaced (decimal z.0.1)) ++ ((spaced (signed z.1.0.0) ++ spaced (decimal z.1.0.1))
    ++ (joined z.1.1 ++ (10 ∷ []))))
    (λ z. Limits (sheet_of z))
    (λ r. Unit {0})
unfolding fields
reads_fields = reads_both reads_length_and_rule (reads_both reads_top_and_spacing reads_list)

pub reads_lines : Reads sheet_lines sheet_text Within (λ r. Unit {0})
unfolding sheet_lines sheet_text fields_of
reads_lines =
    let r = reads_behind title_line sheet_of fields_of (λ x. refl) (λ z. refl) reads_fields in
    record {
      sound = λ s x k e. let (t, o) = r.sound s x k e in (t, within x o);
      complete = λ x after o. r.complete x after (limits x o);
    }
  where
    within : (x : RawSheet) → Limits x → Within x
    within x ((n, rule), ((top, spacing), (one, few, each))) =
        record { n = n; rule = rule; top = top; spacing = spacing; some-start = one; few_start = few; start = each }

    limits : (x : RawSheet) → Within x → Limits x
    limits x w = ((w.n, w.rule), ((w.top, w.spacing), (w.some-start, w.few_start, w.start)))

-- ---- the whole text

pub parse_sound : (s : List ℕ) (x : RawSheet) → parse s ≡ some x → IsText x s
unfolding parse wholly
parse_sound s x e = by_test (leb (length s) 128)
    (λ t. go (leb-true _ _ t) (sheet_lines s) refl (rw t at e))
    (λ t. not_some x (rw t at e))
  where
    not_some : {B : Type 0} (x : RawSheet) → none ≡ some x → B
    not_some x e = absurd (let z : ◌≡◌ {A = ℕ} 0 1 = cc in omega arith)

    go : length s ≤ 128 → (f : Found RawSheet) → sheet_lines s ≡ f → wholly (length s) f ≡ some x → IsText x s
    go l missing r e = not_some x e
    go l (found y k) r e = by_test (eqb k (length s))
        (λ c.
        let q : some y ≡ some x = rw c at e in
        let x' : x ≡ y = cc in
        let (t, w) = reads_lines.sound s y k r in
        let all : drop k s ≡ [] = drop_of_length-le s {i = k} (omega (arith, eqb-true k (length s) c)) in
        rw x' (record { text = t.front ∙ rw all (append-nil (sheet_text y)); within = w; size = l }))
        (λ c. not_some x (rw c at e))

pub parse_complete : (s : List ℕ) (x : RawSheet) → IsText x s → parse s ≡ some x
unfolding parse wholly
parse_complete s x t =
    let k : sheet_lines s ≡ found x (length s) =
    rw t.text (rw (append-nil (sheet_text x)) at (reads_lines.complete x [] t.within tt)) in
    rw (le-leb (length s) 128 t.size, k, eq-eqb (length s) (length s) refl)

-- a text reads as the sheet x just if it is the text of x
pub reads_as : (s : List ℕ) (x : RawSheet) → (parse s ≡ some x) ↔ IsText x s
reads_as s x = (parse_sound s x, parse_complete s x)
