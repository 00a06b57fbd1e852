-- An array that can be stepped, one step further: it holds the step of its window, and can be stepped again. Assumes nothing.
use mathlib.Core.List.{List}
use mathlib.Core.Path.{◌≡◌, ap, ◌∙◌}
use Prim.Native.Nat.{ℕ}
use native.Mathlib.Omega.{arith}
use lib.ListN.{length, take}
use lib.Seq.{length-take-le}
use Rattle.weak_orders.specs.Window.{padded}
use Rattle.weak_orders.proofs.FormTests.{says_length}
use Rattle.weak_orders.proofs.Padded.{take-padded, length-padded}
use Rattle.successors.specs.Rules.{rule_of, step}
use Rattle.successors.proofs.StepForm.{step-length, step_in_form}
use Rattle.successors.proofs.Steppable.{Steppable}

pub record Stepped (rule n : ℕ) (w v : List ℕ) : Type 0 where
  pub long : length v ≡ 16
  pub window : take n v ≡ step (rule_of rule) (take n w)
  pub ready : Steppable rule n v

pub stepped : {rule n : ℕ} {w v : List ℕ} → length w ≡ 16 → Steppable rule n w → v ≡ padded (step (rule_of rule) (take n w)) → Stepped rule n w v
stepped {rule} {n} {w} {v} l (known, (sized, form)) e =
    let (some, few) = (says_length n).to sized in
    let size : length (take n w) ≡ n = length-take-le n w (omega arith) in
    let after : length (step (rule_of rule) (take n w)) ≡ n = step-length (rule_of rule) (take n w) (omega arith) ∙ size in
    let window : take n v ≡ step (rule_of rule) (take n w) = ap (take n) e ∙ take-padded _ n after in
    record {
      long = ap length e ∙ length-padded _ (omega arith);
      window = window;
      ready = (known, (sized, rw window (step_in_form rule (take n w) (omega arith) form)));
    }
