-- `malformed`: the tests are those of the definition, in its order. Assumes nothing.
use mathlib.Core.Bool.{true, false}
use mathlib.Core.Path.{◌≡◌, sym, ◌∙◌}
use lib.Dec.{ltb, eqb}
use lib.ListN.{length}
use borrow.Author.Tests.{lt-ltb, le-ltb}
use Rattle.faults.specs.Faults.{has_byte, ends_line, malformed}
use Rattle.faults.proofs.malformed.Goals.{Else-has_byte, Else-has_byte-2, Else-has_byte-3, Else-not-ends_line, Else-is_empty, Else-text-gt128}
use Rattle.faults.proofs.TextTests.{any_byte}
use Rattle.faults.proofs.malformed.Goals as goal

-- what the tests that were passed say
some : (c : Else-is_empty) → eqb (length c.args.text.now) 0 ≡ false
some c = sym c.if-is_empty.ensures

short : (c : Else-text-gt128) → ltb 128 (length c.args.text.now) ≡ false
short c = le-ltb 128 (length c.args.text.now) c.if-text-gt128.false

no_return : (c : Else-has_byte) → has_byte 13 13 c.args.text.now ≡ false
no_return c = sym (any_byte 13 13 c.args.text.now) ∙ sym c.has_byte.ensures ∙ c.if-has_byte.false

no-tab : (c : Else-has_byte-2) → has_byte 9 9 c.args.text.now ≡ false
no-tab c = sym (any_byte 9 9 c.args.text.now) ∙ sym c.has_byte-2.ensures ∙ c.if-has_byte-2.false

all_ascii : (c : Else-has_byte-3) → has_byte 128 255 c.args.text.now ≡ false
all_ascii c = sym (any_byte 128 255 c.args.text.now) ∙ sym c.has_byte-3.ensures ∙ c.if-has_byte-3.false

ended : (c : Else-not-ends_line) → ends_line c.args.text.now ≡ true
ended c = sym c.ends_line.ensures ∙ c.if-not-ends_line.false

pub returns-then-is_empty : goal.returns-then-is_empty
unfolding malformed
returns-then-is_empty c = rw (sym c.if-is_empty.ensures)

pub returns-then-text-gt128 : goal.returns-then-text-gt128
unfolding malformed
returns-then-text-gt128 c =
    let here = goal.at.returns-then-text-gt128 c in
    rw (some here.Else-is_empty, lt-ltb 128 _ c.if-text-gt128.true)

pub returns-then-has_byte : goal.returns-then-has_byte
unfolding malformed
returns-then-has_byte c =
    let here = goal.at.returns-then-has_byte c in
    rw (some here.Else-is_empty, short here.Else-text-gt128, sym (any_byte 13 13 c.args.text.now) ∙ sym c.has_byte.ensures ∙ c.if-has_byte.true)

pub returns-then-has_byte-2 : goal.returns-then-has_byte-2
unfolding malformed
returns-then-has_byte-2 c =
    let here = goal.at.returns-then-has_byte-2 c in
    rw (some here.Else-is_empty, short here.Else-text-gt128, no_return here.Else-has_byte, sym (any_byte 9 9 c.args.text.now) ∙ sym c.has_byte-2.ensures ∙ c.if-has_byte-2.true)

pub returns-then-has_byte-3 : goal.returns-then-has_byte-3
unfolding malformed
returns-then-has_byte-3 c =
    let here = goal.at.returns-then-has_byte-3 c in
    rw (some here.Else-is_empty, short here.Else-text-gt128, no_return here.Else-has_byte, no-tab here.Else-has_byte-2, sym (any_byte 128 255 c.args.text.now) ∙ sym c.has_byte-3.ensures ∙ c.if-has_byte-3.true)

pub returns-then-not-ends_line : goal.returns-then-not-ends_line
unfolding malformed
returns-then-not-ends_line c =
    let here = goal.at.returns-then-not-ends_line c in
    let no = sym c.ends_line.ensures ∙ c.if-not-ends_line.true in
    rw (some here.Else-is_empty, short here.Else-text-gt128, no_return here.Else-has_byte, no-tab here.Else-has_byte-2, all_ascii here.Else-has_byte-3, no)

pub returns-then-not-has_title : goal.returns-then-not-has_title
unfolding malformed
returns-then-not-has_title c =
    let here = goal.at.returns-then-not-has_title c in
    let no = sym c.has_title.ensures ∙ c.if-not-has_title.true in
    rw (some here.Else-is_empty, short here.Else-text-gt128, no_return here.Else-has_byte, no-tab here.Else-has_byte-2, all_ascii here.Else-has_byte-3, ended here.Else-not-ends_line, no)

pub returns : goal.returns
unfolding malformed
returns c =
    let here = goal.at.returns c in
    let yes = sym c.has_title.ensures ∙ c.if-not-has_title.false in
    rw (some here.Else-is_empty, short here.Else-text-gt128, no_return here.Else-has_byte, no-tab here.Else-has_byte-2, all_ascii here.Else-has_byte-3, ended here.Else-not-ends_line, yes)
