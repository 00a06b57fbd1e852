-- What it says that a window can be stepped, and that it is accepted. Assumes nothing.
use mathlib.Core.Bool.{true, cond, not, ◌&&◌}
use mathlib.Core.List.{List}
use mathlib.Core.Logic.{◌≢◌}
use mathlib.Core.Path.{◌≡◌, refl, sym, ap, ◌∙◌}
use Prim.Native.Nat.{ℕ, ◌≤◌}
use native.Mathlib.Omega.{arith}
use lib.Dec.{ltb, eqb}
use lib.ListN.{length, take}
use lib.Seq.{length-take-le}
use borrow.Author.Tests.{eq-eqb, ltb-false}
use Rattle.refusals.specs.declared.Cause.{Cause}
use Rattle.refusals.specs.declared.Cause.TheVariants.{WindowLength, RuleNumber}
use Rattle.std.specs.Prelude.{Result, Ok, Err}
use Rattle.weak_orders.specs.Says.{Says}
use Rattle.weak_orders.specs.Converted.{is_rank_window, judged_by, judged_in}
use Rattle.weak_orders.specs.Tables.{tally, is_rank_table}
use Rattle.weak_orders.specs.Window.{is_length, is_rank, is_height, padded, shifted, loaded}
use Rattle.weak_orders.proofs.FormTests.{says_length, rank_by_table}
use Rattle.weak_orders.proofs.Judged.{judged_array, refused, loaded-judged, judged_whole, by_loaded}
use Rattle.weak_orders.proofs.Tests.{◌∈◌, by_test, says_no, says_and, says_itself}
use Rattle.successors.specs.NextSymbol.{steppable, step_or_stay, judged, answer_by, next_symbol}
use Rattle.successors.specs.Rules.{rule_of, in_form, is_rule, step}
use Rattle.successors.proofs.RuleNumbers.{form_bound, form_height, says_rule}

-- each of the three tests passes
abbrev pub Steppable : ℕ → ℕ → List ℕ → Type 0
Steppable rule n w = (is_rule rule ≡ true) × ((is_length n ≡ true) × (in_form rule (take n w) ≡ true))

pub says_steppable : (rule n : ℕ) (w : List ℕ) → Says (steppable rule n w) (Steppable rule n w)
unfolding steppable
says_steppable rule n w = says_and (says_itself (is_rule rule)) (says_and (says_itself (is_length n)) (says_itself (in_form rule (take n w))))

pub step_made : (rule n : ℕ) (w : List ℕ) → steppable rule n w ≡ true → step_or_stay rule n w ≡ padded (step (rule_of rule) (take n w))
unfolding step_or_stay
step_made rule n w t = rw t

-- the first n symbols of an array are accepted just where it can be stepped
module _ (rule n : ℕ) (w : List ℕ) (l : length w ≡ 16) where
  whole : is_length n ≡ true → eqb (length (take n w)) n ≡ true
  whole long = let (pos, le) = (says_length n).to long in eq-eqb _ _ (length-take-le n w (omega arith))

  pub accepted : Steppable rule n w → judged rule n (take n w) ≡ Ok tt
  unfolding judged
  accepted (known, (long, form)) = rw (long, known, whole long, form)

  pub steppable_of : judged rule n (take n w) ≡ Ok tt → Steppable rule n w
  unfolding judged
  steppable_of e =
      by_test (is_length n) (λ a.
      by_test (is_rule rule) (λ b.
      by_test (in_form rule (take n w)) (λ f. (b, (a, f)))
      (λ f. absurd (refused (rw (a, b, whole a, f) at e))))
      (λ b. absurd (refused (rw (a, b) at e))))
      (λ a. absurd (refused (rw a at e)))

  -- the heights of rules 2 and 3
  pub in_heights : rule ≢ 1 → judged rule n (take n w) ≡ Ok tt → (1 ≤ n) × (n ≤ 16) × (is_height (take n w) ≡ true)
  in_heights ne e =
      let (known, (long, form)) = steppable_of e in
      let (pos, le) = (says_length n).to long in
      (pos, le, sym (form_height rule (take n w) ne) ∙ form)

-- the rule's test between the two of a window in a form
by_form : (rule n : ℕ) (u : List ℕ) →
    judged rule n u ≡ cond (is_length n && not (is_rule rule)) (Err RuleNumber) (judged_in (in_form rule) n u)
unfolding judged judged_in judged_by
by_form rule n u = by_test (is_length n) (λ a. by_test (is_rule rule) (λ b. rw (a, b)) (λ b. rw (a, b))) (λ a. rw a)

-- under rule 1 those two are all
pub judged-ranks : (n : ℕ) (u : List ℕ) → judged_in is_rank n u ≡ judged 1 n u
unfolding judged judged_in judged_by is_rule in_form
judged-ranks n u = refl

-- and the test of the table of counts is the test of the form
pub judged_by_table : (n : ℕ) (w t : List ℕ) → length w ≡ 16 → t ≡ tally (take n w) → judged_by n (is_rank_table n t) ≡ judged 1 n (take n w)
unfolding is_rank_window
judged_by_table n w t l e =
    rw e (ap (judged_by n) (rank_by_table w n l) ∙ judged_array is_rank n w l ∙ judged-ranks n (take n w))

-- a slice is judged as the definition says, also where it is not n long
pub judged-loaded : (rule n : ℕ) (s : List ℕ) → judged rule n (take n (loaded n s)) ≡ judged rule n s
judged-loaded rule n s = rw (by_form rule n (take n (loaded n s)), by_form rule n s, loaded-judged (in_form rule) n s low)
  where
    low : (w : List ℕ) (x : ℕ) → length w ≡ 16 → n ≤ 16 → in_form rule (take n w) ≡ true → x ∈ take n w → x ≤ 16
    low w x l le t m = omega (arith, form_bound rule (take n w) t x m, length-take-le n w (omega arith))

-- an accepted window is n long
pub judged-length : (rule n : ℕ) (s : List ℕ) → judged rule n s ≡ Ok tt → (n ≤ 16) × (length s ≡ n)
judged-length rule n s e = by_test (is_length n && not (is_rule rule))
    (λ t. absurd (refused (rw (by_form rule n s, t) at e)))
    (λ t. judged_whole (in_form rule) n s (rw (by_form rule n s, t) at e))

-- an answer by the verdict, which a refusal gives whatever the rule and the window are, is the slice's own; and a rule that does not fit
-- a byte may be taken for 0, which is no rule either
module _ {A : Type 0} (answer : ℕ → Result (Unit {0}) Cause → List ℕ → A)
    (refusal : (c : Cause) (r q : ℕ) (u v : List ℕ) → answer r (Err c) u ≡ answer q (Err c) v) (rule n : ℕ) (s : List ℕ) where
  loaded_answer : (r : ℕ) → answer r (judged r n (take n (loaded n s))) (take n (loaded n s)) ≡ answer r (judged r n s) s
  loaded_answer r = by_loaded (judged r n) (answer r) n s (judged-loaded r n s) (judged-length r n s) (λ c u v. refusal c r r u v)

  no_rule : (r : ℕ) → ¬ ((1 ≤ r) × (r ≤ 3)) → answer r (judged r n s) s ≡ answer 0 (cond (is_length n) (Err RuleNumber) (Err WindowLength)) s
  unfolding judged
  no_rule r h = by_test (is_length n)
      (λ a. rw (a, says_no (says_rule r) h) (refusal RuleNumber r 0 s s))
      (λ a. rw a (refusal WindowLength r 0 s s))

  pub slice_answer :
      let r = cond (ltb rule 256) rule 0 in
      answer r (judged r n (take n (loaded n s))) (take n (loaded n s)) ≡ answer rule (judged rule n s) s
  slice_answer = loaded_answer (cond (ltb rule 256) rule 0) ∙ by_test (ltb rule 256)
      (λ t. rw t)
      (λ t. rw t (no_rule 0 (λ (l, h). omega arith) ∙ sym (no_rule rule (λ (l, h). omega (arith, ltb-false rule 256 t)))))

-- a symbol is answered just for an accepted window, and is the rule's
module _ (rule n : ℕ) (u : List ℕ) where
  pub symbol_judged : {x : ℕ} → next_symbol rule n u ≡ Ok x → (judged rule n u ≡ Ok tt) × (x ≡ rule_of rule u)
  unfolding next_symbol answer_by
  symbol_judged {x} e = go (judged rule n u) refl
    where
      go : (v : Result (Unit {0}) Cause) → judged rule n u ≡ v → (judged rule n u ≡ Ok tt) × (x ≡ rule_of rule u)
      go (Ok tt) q = let e' = rw q at e in (q, cc)
      go (Err c) q = let e' = rw q at e in absurd (let z : ◌≡◌ {A = ℕ} 0 1 = cc in omega arith)

  pub no_symbol : {c : Cause} → next_symbol rule n u ≡ Err c → judged rule n u ≡ Ok tt → ⊥
  unfolding next_symbol answer_by
  no_symbol e q = let e' = rw q at e in let z : ◌≡◌ {A = ℕ} 0 1 = cc in omega arith

-- so a window that gets a symbol is one that steps, and any other stays as it is
module _ (rule n : ℕ) (w : List ℕ) (l : length w ≡ 16) where
  pub step_symbol : {x : ℕ} → next_symbol rule n (take n w) ≡ Ok x →
      step_or_stay rule n w ≡ cond (is_length n) (padded (shifted (take n w) x)) w
  unfolding step
  step_symbol e =
      let (passed, is) = symbol_judged rule n (take n w) e in
      let s = steppable_of rule n w l passed in
      rw (step_made rule n w ((says_steppable rule n w).of s), s.1.0, is)

  pub stays : {c : Cause} → next_symbol rule n (take n w) ≡ Err c → step_or_stay rule n w ≡ w
  unfolding step_or_stay
  stays e = rw (says_no (says_steppable rule n w) (λ s. no_symbol rule n (take n w) e (accepted rule n w l s)))
