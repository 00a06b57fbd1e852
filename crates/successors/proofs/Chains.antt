-- What the scans of a window's symbols give, in the words of the rules. Assumes nothing.
use mathlib.Core.Bool.{Bool, true, false≢true}
use mathlib.Core.List.{List, [], ◌∷◌}
use mathlib.Core.Logic.{inl, inr, ⊎_elim}
use mathlib.Core.Path.{◌≡◌, refl, sym, ap, ◌∙◌}
use Prim.Native.Nat.{ℕ, zero, suc, ◌+◌, ◌-◌, ◌≤◌, ◌<◌}
use native.Mathlib.Omega.{arith}
use native.Mathlib.Decide.{dec_lt}
use lib.Dec.{eqb}
use lib.ListN.{take, drop}
use Rattle.std.specs.List.{list_all, list_any, range_with_len, slice_range}
use Rattle.std.proofs.lemmas.List.{drop-take}
use Rattle.weak_orders.specs.Says.{Says}
use Rattle.weak_orders.proofs.Chains.{list_all-all}
use Rattle.weak_orders.proofs.Tests.{says_all, ◌∈◌, here, there, nowhere, split_mem, says_as, says_eq, says_or, says_and, says_itself}

-- `contains`
pub says_contains : (v : ℕ) (l : List ℕ) → Says (list_any (λ y. eqb y v) l) (v ∈ l)
says_contains v [] = record { to = λ t. absurd (false≢true t); of = nowhere }
says_contains v (x ∷ l) = says_as (says_or (says_eq x v) (says_contains v l))
    (⊎_elim (λ e. rw e here) there)
    (split_mem (λ e. inl (sym e)) inr)

-- the symbols behind the first, as the array has them
pub slice_behind : (w : List ℕ) (n : ℕ) → 1 ≤ n → slice_range w 1 n ≡ drop 1 (take n w)
slice_behind w n pos = let e : 1 + (n - 1) ≡ n = omega arith in sym (drop-take 1 (n - 1) w) ∙ ap (λ (k : ℕ). drop 1 (take k w)) e

-- a test of every element
pub says_list_all : {A : Type 0} {p : A → Bool} {P : A → Type 0} → ((x : A) → Says (p x) (P x)) → (l : List A) → Says (list_all p l) ((x : A) → x ∈ l → P x)
says_list_all s l = rw list_all-all (says_all s l)

-- a test of the numbers from a up to x
pub says_between : (p : ℕ → Bool) (a m : ℕ) → Says (list_all p (range_with_len a m)) ((v : ℕ) → a ≤ v → v < a + m → p v ≡ true)
says_between p a zero = record { to = λ t v le lt. absurd (omega arith); of = λ h. refl }
says_between p a (suc m) = says_as (says_and (says_itself (p a)) (says_between p (a + 1) m))
    (λ (t, h) v le lt. elim (dec_lt a v) [ yes l ↦ h v (omega arith) (omega arith) | no l ↦ let e : v ≡ a = omega arith in rw e t ])
    (λ h. (h a (omega arith) (omega arith), λ v le lt. h v (omega arith) (omega arith)))
