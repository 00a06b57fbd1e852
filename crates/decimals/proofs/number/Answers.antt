-- `number`: the run of digits is none, too long or starts with a zero; or its value is the answer. Assumes nothing.
use lib.Dec.{ltb}
use mathlib.Core.Bool.{true, false, ◌&&◌}
use mathlib.Core.Path.{◌≡◌, sym, subst, ◌∙◌}
use native.Mathlib.Omega.{arith}
use borrow.Author.Tests.{lt-ltb, le-ltb}
use lib.ListN.{take}
use lib.Seq.{length-take-le}
use Rattle.decimals.specs.Reading.{run, Digits, starts_with}
use Rattle.decimals.proofs.Digits.{run_length, run-digits}
use Rattle.decimals.proofs.Cursors.{run_count}
use Rattle.decimals.proofs.Answers.{none-run, long_run, zero_run, good_run}
use Rattle.decimals.proofs.number.Goals.{After-run-k, Joined-else-several, else-several-via-then-several+else-starts_with, else-several-via-else-several}
use Rattle.decimals.proofs.number.Goals as goal

run_is : (c : After-run-k) → c.run-k.result ≡ run c.args.s.now
run_is c = c.run-k.ensures ∙ run_count c.args.s.now

no_zero : (c : Joined-else-several) → c.run-k.result ≡ run c.args.s.now → (ltb 1 (run c.args.s.now) && starts_with 48 c.args.s.now) ≡ false
no_zero c k = elim c.else-several.branch [
  | else-several-via-then-several+else-starts_with w ↦ rw (lt-ltb 1 (run c.args.s.now) (omega (arith, k)), sym w.if-starts_with.ensures)
  | else-several-via-else-several w ↦ rw (le-ltb 1 (run c.args.s.now) (omega (arith, k)))
]

pub returns-then-k-eq0 : goal.returns-then-k-eq0
returns-then-k-eq0 c = rw (none-run c.args.s.now (sym (run_is (goal.at.returns-then-k-eq0 c).After-run-k) ∙ c.if-k-eq0.true))

pub returns-then-k-gt6 : goal.returns-then-k-gt6
returns-then-k-gt6 c = rw (long_run c.args.s.now (omega (arith, run_is (goal.at.returns-then-k-gt6 c).After-run-k)))

pub returns-then-starts_with : goal.returns-then-starts_with
returns-then-starts_with c =
    let s = c.args.s.now in
    let k = run_is (goal.at.returns-then-starts_with c).After-run-k in
    let e : (ltb 1 (run s) && starts_with 48 s) ≡ true = rw (lt-ltb 1 (run s) (omega (arith, k)), sym c.if-starts_with.ensures) in
    rw (zero_run s e)

pub slice_bounds-value-end : goal.slice_bounds-value-end
slice_bounds-value-end c =
    let k = run_is (goal.at.slice_bounds-value-end c).After-run-k in
    sym (length-take-le c.run-k.result c.args.s.now (omega (arith, run_length c.args.s.now, k)))

pub value-v-requires : goal.value-v-requires
value-v-requires c =
    let s = c.args.s.now in
    let k = run_is (goal.at.value-v-requires c).After-run-k in
    let size = length-take-le c.run-k.result s (omega (arith, run_length s, k)) in
    (subst (λ k. Digits (take k s)) (sym k) (run-digits s), omega (arith, size))

pub returns : goal.returns
returns c =
    let s = c.args.s.now in
    let here = goal.at.returns c in
    let k = run_is here.After-run-k in
    let e = no_zero here.Joined-else-several k in
    rw (good_run s (omega (arith, k)) (omega (arith, k)) e, c.value-v.ensures, k)
