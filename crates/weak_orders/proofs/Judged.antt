-- The verdict on a window: on the first n of an array, and on a slice. Assumes nothing.
use mathlib.Core.Bool.{Bool, true, false, ◌&&◌}
use mathlib.Core.List.{List}
use mathlib.Core.Path.{◌≡◌, refl, ap, ◌∙◌}
use Prim.Native.Nat.{ℕ, zero, suc, ◌≤◌}
use native.Mathlib.Omega.{arith}
use native.Mathlib.Decide.{ℕ_discrete}
use lib.Dec.{eqb}
use lib.ListN.{length, take, replicate}
use lib.Seq.{length-take-le, take_all}
use borrow.Author.Tests.{eq-eqb, ne_eqb}
use Rattle.refusals.specs.declared.Cause.{Cause}
use Rattle.std.specs.Prelude.{Result, Ok, Err}
use Rattle.weak_orders.specs.Converted.{judged_by, judged_in}
use Rattle.weak_orders.specs.Window.{is_length, loaded}
use Rattle.weak_orders.proofs.FormTests.{says_length}
use Rattle.weak_orders.proofs.Padded.{take-padded}
use Rattle.weak_orders.proofs.Tests.{◌∈◌, here, by_test, says?, says_no, says_and, says_eq, says_itself, not_true→false}

-- the first n of an array are n long, where n is a window's length
pub judged_array : (form : List ℕ → Bool) (n : ℕ) (w : List ℕ) → length w ≡ 16 →
    judged_by n (is_length n && form (take n w)) ≡ judged_in form n (take n w)
unfolding judged_in judged_by
judged_array form n w l = elim (says? (says_length n)) [
  | no h ↦ rw (says_no (says_length n) h)
  | yes (pos, le) ↦ rw ((says_length n).of (pos, le), eq-eqb (length (take n w)) n (length-take-le n w (omega arith)))
]

pub refused : {c : Cause} {x : Unit {0}} → ◌≡◌ {A = Result (Unit {0}) Cause} (Err c) (Ok x) → ⊥
refused e = let z : ◌≡◌ {A = ℕ} 0 1 = cc in omega arith

-- what is accepted passed both tests
pub accepted_by : (n : ℕ) (b : Bool) → judged_by n b ≡ Ok tt → (is_length n ≡ true) × (b ≡ true)
unfolding judged_by
accepted_by n b e =
    by_test (is_length n) (λ t. by_test b (λ f. (t, f)) (λ f. absurd (refused (rw (t, f) at e)))) (λ t. absurd (refused (rw t at e)))

high : List ℕ
high = replicate 16 255

-- what a slice is loaded as
pub loaded_whole : (n : ℕ) (s : List ℕ) → n ≤ 16 → length s ≡ n → take n (loaded n s) ≡ s
unfolding loaded
loaded_whole n s le e = rw (eq-eqb (length s) n e, take_all 16 s (omega arith)) (take-padded s n e)

loaded-other : (n : ℕ) (s : List ℕ) → ¬ (length s ≡ n) → loaded n s ≡ high
unfolding loaded high
loaded-other n s ne = rw (ne_eqb (length s) n ne)

-- 255 stands in no window whose symbols are at most 16
no_high : (form : List ℕ → Bool) (n : ℕ) → 1 ≤ n → ((x : ℕ) → form (take n high) ≡ true → x ∈ take n high → x ≤ 16) → form (take n high) ≡ false
unfolding high
no_high form zero pos low = absurd (omega arith)
no_high form (suc n) pos low = not_true→false _ (λ t. omega (arith, low 255 t here))

-- so a slice is judged as the definition says, also where it is not n long
pub loaded-judged : (form : List ℕ → Bool) (n : ℕ) (s : List ℕ) →
    ((w : List ℕ) (x : ℕ) → length w ≡ 16 → n ≤ 16 → form (take n w) ≡ true → x ∈ take n w → x ≤ 16) →
    judged_in form n (take n (loaded n s)) ≡ judged_in form n s
unfolding judged_in judged_by high
loaded-judged form n s low = elim (says? (says_length n)) [
  | no l ↦ rw (says_no (says_length n) l)
  | yes (pos, le) ↦ elim (ℕ_discrete (length s) n) [
    | yes e ↦ rw (loaded_whole n s le e)
    | no ne ↦
        let long = (says_length n).of (pos, le) in
        let none = no_high form n pos (λ x. low high x refl le) in
        rw (loaded-other n s ne) (rw (long, none, eq-eqb (length (take n high)) n (length-take-le n high (omega arith)), ne_eqb (length s) n ne))
  ]
]

-- an accepted window is n long
pub judged_whole : (form : List ℕ → Bool) (n : ℕ) (s : List ℕ) → judged_in form n s ≡ Ok tt → (n ≤ 16) × (length s ≡ n)
unfolding judged_in
judged_whole form n s e =
    let (long, formed) = accepted_by n (eqb (length s) n && form s) e in
    (((says_length n).to long).1, ((says_and (says_eq (length s) n) (says_itself (form s))).to formed).0)

-- so an answer that a refusal gives whatever the window is gives the slice's own
pub by_loaded : {A : Type 0} (judge : List ℕ → Result (Unit {0}) Cause) (answer : Result (Unit {0}) Cause → List ℕ → A) (n : ℕ) (s : List ℕ) →
    judge (take n (loaded n s)) ≡ judge s → (judge s ≡ Ok tt → (n ≤ 16) × (length s ≡ n)) →
    ((c : Cause) (u v : List ℕ) → answer (Err c) u ≡ answer (Err c) v) →
    answer (judge (take n (loaded n s))) (take n (loaded n s)) ≡ answer (judge s) s
by_loaded judge answer n s same whole refusal = ap (λ v. answer v (take n (loaded n s))) same ∙ go (judge s) refl
  where
    go : (v : Result (Unit {0}) Cause) → judge s ≡ v → answer v (take n (loaded n s)) ≡ answer v s
    go (Ok tt) e = let (le, l) = whole e in ap (answer (Ok tt)) (loaded_whole n s le l)
    go (Err c) e = refusal c _ _
