-- Things gathered in an array, and the rest of the text; and the loop over decimals joined by commas. Assumes nothing.
use mathlib.Core.Bool.{true, false}
use mathlib.Core.List.{List, [], ◌∷◌, ◌++◌, append_assoc}
use mathlib.Core.Path.{◌≡◌, refl, sym, ap, ◌∙◌}
use Prim.Native.Nat.{ℕ, suc, ◌+◌, ◌-◌, ◌≤◌, ◌<◌}
use native.Mathlib.Numerals.{add-one}
use native.Mathlib.Omega.{arith}
use lib.ListN.{length, take, drop, set, replicate, length-append, length-set}
use lib.Seq.{drop-drop, length-take-le, take_all, take_at, take-suc-set, get_or_at}
use Rattle.weak_orders.specs.Window.{padded}
use Rattle.weak_orders.proofs.Padded.{padded_nil, padded-next}
use Rattle.decimals.specs.Reading.{Found, found, missing, further, starts_with, number, comma_then, numbers}
use Rattle.std.specs.Prelude.{Some}
use Rattle.decimals.specs.Held.{taken_as, numbers_of}
use Rattle.decimals.proofs.Answers.{starts_within}

-- what is found k bytes further on, with vs before it
unfoldable pub after : {A : Type 0} → List A → ℕ → Found (List A) → Found (List A)
after vs k (found l m) = found (vs ++ l) (k + m)
after vs k missing = missing

module _ {A : Type 0} where
  pub after_none : (f : Found (List A)) → after [] 0 f ≡ f
  unfolding after
  after_none (found l m) = ap (found l) (omega arith)
  after_none missing = refl

  pub after_more : (vs : List A) (at : ℕ) (v : A) (k : ℕ) (f : Found (List A)) →
      after vs at (further k (λ l. v ∷ l) f) ≡ after (vs ++ (v ∷ [])) (at + k) f
  unfolding after further
  after_more vs at v k (found l m) = let e : at + (k + m) ≡ at + k + m = omega arith in rw (append_assoc, e)
  after_more vs at v k missing = refl

-- so many numbers are gathered, and the text is read up to an index
pub record Gathered (s values : List ℕ) (count at : ℕ) : Type 0 where
  pub few : count ≤ 16
  pub within : at ≤ length s
  pub long : length values ≡ 16
  pub kept : values ≡ padded (take count values)
  pub rest : numbers 16 s ≡ after (take count values) at (numbers (16 - count) (drop at s))

pub gathered_none : (s : List ℕ) → Gathered s (replicate 16 0) 0 0
gathered_none s = record { few = omega arith; within = omega arith; long = refl; kept = padded_nil; rest = sym (after_none (numbers 16 s)) }

-- the list is full, and a comma stood behind it
pub gathered_full : (s values : List ℕ) (count at : ℕ) → Gathered s values count at → 16 ≤ count → numbers 16 s ≡ missing
unfolding numbers after
gathered_full s values count at g h = let z : 16 - count ≡ 0 = omega arith in rw z at g.rest

module _ (s values : List ℕ) (count at : ℕ) (g : Gathered s values count at) (room : count < 16) where
  next : numbers 16 s ≡ after (take count values) at (comma_then (number (drop at s)) (numbers (15 - count)) (drop at s))
  unfolding numbers
  next = let e : 16 - count ≡ suc (15 - count) = omega arith in rw e at g.rest

  pub gathered_missing : number (drop at s) ≡ missing → numbers 16 s ≡ missing
  unfolding comma_then after
  gathered_missing e = rw e at next

  module _ {v k : ℕ} (e : number (drop at s) ≡ found v k) where
    one_more : take (count + 1) (set values count v) ≡ take count values ++ (v ∷ [])
    one_more = rw (add-one, take-suc-set values count v (omega arith))

    still_kept : set values count v ≡ padded (take count values ++ (v ∷ []))
    still_kept =
        let size = length-take-le count values (omega arith) in
        let l = take count values ++ (v ∷ []) in
        let long : length l ≡ count + 1 = omega (arith, length-append (take count values) (v ∷ [])) in
        padded-next l values count v (omega arith) (omega arith)
        (rw (take_at (take count values) (v ∷ []) count size) g.kept) (sym (get_or_at (take count values) v [] 0 count size))
        ∙ ap padded (take_all (count + 1) l (omega arith))

    -- no comma behind it
    pub gathered_last : starts_with 44 (drop (at + k) s) ≡ false →
        taken_as numbers_of (numbers 16 s) ≡ Some (record { value = record { values = set values count v; count = count + 1 }; len = at + k })
    unfolding comma_then after
    gathered_last c =
        let here : starts_with 44 (drop k (drop at s)) ≡ false = rw drop-drop c in
        let all : numbers 16 s ≡ found (take count values ++ (v ∷ [])) (at + k) = rw (e, here) at next in
        let size : length (take count values ++ (v ∷ [])) ≡ count + 1 =
        omega (arith, length-append (take count values) (v ∷ []), length-take-le count values (omega arith)) in
        rw (all, still_kept, size)

    pub gathered_on : starts_with 44 (drop (at + k) s) ≡ true → Gathered s (set values count v) (count + 1) (at + k + 1)
    unfolding comma_then
    gathered_on c =
        let here : starts_with 44 (drop k (drop at s)) ≡ true = rw drop-drop c in
        let on = rw (e, here) at next ∙ after_more (take count values) at v (suc k) (numbers (15 - count) (drop (suc k) (drop at s))) in
        let left : 15 - count ≡ 16 - (count + 1) = omega arith in
        let far : at + suc k ≡ at + k + 1 = omega arith in
        record {
          few = omega arith;
          within = omega (arith, starts_within 44 s (at + k) c);
          long = length-set values count v ∙ g.long;
          kept = rw (one_more, still_kept);
          rest = rw one_more (rw (drop-drop (suc k) at s, left, far) at on);
        }
