-- What a reader finds is what the writer wrote. Assumes nothing.
use mathlib.Core.Bool.{true, false, false≢true}
use mathlib.Core.List.{List, [], ◌∷◌, ◌++◌, append_assoc, append-nil}
use mathlib.Core.Logic.{◌⊎◌, ◌≢◌, inl, inr}
use mathlib.Core.Path.{◌≡◌, refl, sym, ap, ◌∙◌}
use Prim.Native.Nat.{ℕ, zero, suc, ◌+◌, ◌≤◌, ◌<◌}
use native.Mathlib.Decide.{dec_lt}
use native.Mathlib.Numerals.{add-one}
use native.Mathlib.Omega.{arith}
use lib.Dec.{eqb}
use lib.IntN.{ℤ, pos, negsuc, nat_abs}
use lib.ListN.{length, take, drop, length-append, length-drop, take-append-drop}
use lib.Seq.{take_at, drop_at, drop-drop, length-take-le}
use borrow.Author.Tests.{eq-eqb, ne_eqb, eqb-true}
use Rattle.weak_orders.specs.Says.{Says}
use Rattle.weak_orders.proofs.Tests.{◌∈◌, here, there, nowhere, split_mem, by_test, says_and, says_lt, says_not, says_itself}
use Rattle.weak_orders.proofs.Tests.{says_le, false→not_true}
use Rattle.decimals.specs.Text.{decimal, signed, commaed, joined}
use Rattle.decimals.specs.Reading.{Found, found, missing, Reader, further, next, both, begins_with, behind, starts_with, closed, ended, is_digit}
use Rattle.decimals.specs.Reading.{run, Digits, none, more, value, well_written, number, positive, negative, signed_number, comma_then}
use Rattle.decimals.specs.Reading.{numbers}
use Rattle.decimals.proofs.Digits.{decimal_small, decimal-some, decimal-digits, decimal-value, decimal-head}
use Rattle.decimals.proofs.Digits.{digits_decimal, run_through, run-digits, run_length}
use Rattle.decimals.proofs.Cursors.{says_begins}

-- the first k bytes of s are t
pub record Takes (t s : List ℕ) (k : ℕ) : Type 0 where
  pub front : s ≡ t ++ drop k s
  pub size : k ≡ length t

-- p finds just what w writes, of the things that Ok holds of, where what follows is as Stop says
pub record Reads {A : Type 0} (p : Reader A) (w : A → List ℕ) (Ok : A → Type 0) (Stop : List ℕ → Type 0) : Type 0 where
  pub sound : (s : List ℕ) (x : A) (k : ℕ) → p s ≡ found x k → Takes (w x) s k × Ok x
  pub complete : (x : A) (r : List ℕ) → Ok x → Stop r → p (w x ++ r) ≡ found x (length (w x))

pub takes_within : {t s : List ℕ} {k : ℕ} → Takes t s k → k ≤ length s
takes_within {t} {s} {k} h = omega (arith, ap length h.front, length-append t (drop k s), h.size)

-- what is found behind an index ends within the text
pub further_within : {A : Type 0} {p : Reader A} {w : A → List ℕ} {Ok : A → Type 0} {Stop : List ℕ → Type 0} → Reads p w Ok Stop →
    (s : List ℕ) (at : ℕ) {x : A} {k : ℕ} → p (drop at s) ≡ found x k → at ≤ length s → at + k ≤ length s
further_within h s at {x} {k} e l = omega (arith, takes_within (h.sound (drop at s) x k e).0, length-drop at s)

pub takes_then : {t u s : List ℕ} {k m : ℕ} → Takes t s k → Takes u (drop k s) m → Takes (t ++ u) s (k + m)
takes_then {t} {u} {s} {k} {m} h g = record {
  front = h.front ∙ ap (λ r. t ++ r) g.front ∙ rw (append_assoc, ← drop-drop);
  size = omega (arith, length-append t u, h.size, g.size);
}

pub not_found : {A B : Type 0} (x : A) (k : ℕ) → missing ≡ found x k → B
not_found x k e = absurd (let z : ◌≡◌ {A = ℕ} 0 1 = cc in omega arith)

pub starts : (b : ℕ) (s : List ℕ) → starts_with b s ≡ true → s ≡ b ∷ drop 1 s
unfolding starts_with
starts b [] e = absurd (false≢true e)
starts b (x ∷ s) e = ap (λ y. y ∷ s) (eqb-true x b e)

pub takes_ended : {t s : List ℕ} {k : ℕ} (b : ℕ) → Takes t s k → starts_with b (drop k s) ≡ true → Takes (t ++ (b ∷ [])) s (suc k)
takes_ended {t} {s} {k} b h e =
    let one : Takes (b ∷ []) (drop k s) 1 = record { front = starts b (drop k s) e; size = refl } in
    rw add-one at (takes_then h one)

-- ---- one decimal

says_written : (k : ℕ) (s : List ℕ) → Says (well_written k s) ((1 ≤ k) × ((k ≤ 6) × (¬ ((1 < k) × (starts_with 48 s ≡ true)))))
unfolding well_written
says_written k s = says_and (says_le 1 k) (says_and (says_le k 6) (says_not (says_and (says_lt 1 k) (says_itself (starts_with 48 s)))))

written : (s : List ℕ) → 1 ≤ run s → ¬ ((1 < run s) × (starts_with 48 s ≡ true)) → decimal (value 0 (take (run s) s)) ≡ take (run s) s
unfolding starts_with run
written [] h c = absurd (omega arith)
written (b ∷ s) h c = by_test (is_digit b)
    (λ t. rw t (digits_decimal b (take (run s) s) (rw t at (run-digits (b ∷ s))) (alone (rw t at c))))
    (λ f. absurd (let l : 1 ≤ 0 = rw f at h in omega arith))
  where
    alone : ¬ ((1 < suc (run s)) × (eqb b 48 ≡ true)) → (take (run s) s ≡ []) ⊎ (b ≢ 48)
    alone n = elim (dec_lt 1 (suc (run s))) [
      | yes l ↦ inr (λ e. n (l, eq-eqb b 48 e))
      | no l ↦ inl (let z : run s ≡ 0 = omega arith in rw z)
    ]

number_sound : (s : List ℕ) (x k : ℕ) → number s ≡ found x k →
    Takes (decimal x) s k × (length (decimal x) ≤ 6)
unfolding number
number_sound s x k e = by_test (well_written (run s) s)
    (λ t.
    let (low, (high, c)) = (says_written (run s) s).to t in
    let g : found (value 0 (take (run s) s)) (run s) ≡ found x k = rw t at e in
    let d = written s low c in
    let x' : x ≡ value 0 (take (run s) s) = cc in
    let k' : k ≡ run s = cc in
    let l : k ≡ length (decimal x) = rw (x', d, k') (sym (length-take-le (run s) s (run_length s))) in
    (record { front = rw (x', d, k') (sym (take-append-drop (run s) s)); size = l }, omega arith))
    (λ t. not_found x k (rw t at e))

number_complete : (x : ℕ) (r : List ℕ) → length (decimal x) ≤ 6 → run r ≡ 0 → number (decimal x ++ r) ≡ found x (length (decimal x))
unfolding number
number_complete x r h z =
    let k : run (decimal x ++ r) ≡ length (decimal x) = omega (arith, run_through (decimal-digits x) r) in
    let t : well_written (length (decimal x)) (decimal x ++ r) ≡ true = (says_written _ _).of (decimal-some x, (h, head x r)) in
    rw (k, t, take_at (decimal x) r (length (decimal x)) refl, decimal-value x)
  where
    head : (x : ℕ) (r : List ℕ) → ¬ ((1 < length (decimal x)) × (starts_with 48 (decimal x ++ r) ≡ true))
    head zero r (l, _) = omega (arith, ap length (decimal_small 0 (omega arith)))
    head (suc x) r (_, e) = false→not_true _ (decimal-head (suc x) (omega arith) r) e

-- the decimal of a number of at most six digits, where no digit follows
pub reads_number : Reads number decimal (λ x. length (decimal x) ≤ 6) (λ r. run r ≡ 0)
reads_number = record { sound = number_sound; complete = number_complete }

-- ---- a decimal that may be below zero

negative_sound : (s : List ℕ) (z : ℤ) (k : ℕ) (f : Found ℕ) → number s ≡ f → negative f ≡ found z k →
    Takes (signed z) (45 ∷ s) k × (length (decimal (nat_abs z)) ≤ 6)
unfolding negative signed
negative_sound s z k missing n e = not_found z k e
negative_sound s z k (found zero m) n e = not_found z k e
negative_sound s z k (found (suc v) m) n e =
    let (t, h) = number_sound s (suc v) m n in
    let z' : z ≡ negsuc v = cc in
    let k' : k ≡ suc m = cc in
    rw (z', k') (record { front = ap (λ u. 45 ∷ u) t.front; size = ap suc t.size }, h)

positive_sound : (s : List ℕ) (z : ℤ) (k : ℕ) (f : Found ℕ) → number s ≡ f → positive f ≡ found z k →
    Takes (signed z) s k × (length (decimal (nat_abs z)) ≤ 6)
unfolding positive signed
positive_sound s z k missing n e = not_found z k e
positive_sound s z k (found v m) n e =
    let z' : z ≡ pos v = cc in
    let k' : k ≡ m = cc in
    rw (z', k') (number_sound s v m n)

signed_sound : (s : List ℕ) (z : ℤ) (k : ℕ) → signed_number s ≡ found z k →
    Takes (signed z) s k × (length (decimal (nat_abs z)) ≤ 6)
unfolding signed_number
signed_sound s z k e = by_test (starts_with 45 s)
    (λ t. rw (← starts 45 s t) at (negative_sound (drop 1 s) z k (number (drop 1 s)) refl (rw t at e)))
    (λ f. positive_sound s z k (number s) refl (rw f at e))

no_minus : {s : List ℕ} → Digits s → 1 ≤ length s → (r : List ℕ) → starts_with 45 (s ++ r) ≡ false
unfolding starts_with
no_minus none h r = absurd (omega arith)
no_minus (more {b} l u d) h r = ne_eqb b 45 (λ e. omega arith)

signed_complete : (z : ℤ) (r : List ℕ) → length (decimal (nat_abs z)) ≤ 6 → run r ≡ 0 →
    signed_number (signed z ++ r) ≡ found z (length (signed z))
unfolding signed_number signed positive negative starts_with
signed_complete (pos n) r h z = rw (no_minus (decimal-digits n) (decimal-some n) r, number_complete n r h z)
signed_complete (negsuc n) r h z = rw (number_complete (suc n) r h z)

pub reads_signed : Reads signed_number signed (λ z. length (decimal (nat_abs z)) ≤ 6) (λ r. run r ≡ 0)
reads_signed = record { sound = signed_sound; complete = signed_complete }

-- ---- decimals joined by commas

abbrev pub Items : ℕ → List ℕ → Type 0
Items k l = (1 ≤ length l) × (length l ≤ k) × ((v : ℕ) → v ∈ l → length (decimal v) ≤ 6)

joined_one : (x : ℕ) → joined (x ∷ []) ≡ decimal x
unfolding joined commaed
joined_one x = append-nil (decimal x)

joined_more : (x y : ℕ) (l : List ℕ) → (decimal x ++ (44 ∷ [])) ++ joined (y ∷ l) ≡ joined (x ∷ y ∷ l)
unfolding joined commaed
joined_more x y l = rw append_assoc

-- a comma after the decimal, and at least one more
comma_sound : (k v m : ℕ) (s l : List ℕ) (j : ℕ) (f : Found (List ℕ)) →
    Takes (decimal v ++ (44 ∷ [])) s (suc m) → length (decimal v) ≤ 6 →
    ((x : List ℕ) (i : ℕ) → f ≡ found x i → Takes (joined x) (drop (suc m) s) i × Items k x) →
    further (suc m) (λ l. v ∷ l) f ≡ found l j → Takes (joined l) s j × Items (suc k) l
unfolding further
comma_sound k v m s l j missing t q ih e = not_found l j e
comma_sound k v m s l j (found [] i) t q ih e = let (_, (h, _, _)) = ih [] i refl in absurd (omega arith)
comma_sound k v m s l j (found (y ∷ x) i) t q ih e =
    let (g, (_, h, all)) = ih (y ∷ x) i refl in
    let l' : l ≡ v ∷ y ∷ x = cc in
    let j' : j ≡ suc m + i = cc in
    rw (l', j') (rw joined_more at (takes_then t g), (omega arith, omega arith, λ u w. split_mem (λ r. rw r q) (all u) w))

numbers_sound : (k : ℕ) (s l : List ℕ) (j : ℕ) → numbers k s ≡ found l j → Takes (joined l) s j × Items k l
unfolding numbers comma_then
numbers_sound zero s l j e = not_found l j e
numbers_sound (suc k) s l j e = go (number s) refl (λ m. numbers_sound k (drop (suc m) s)) e
  where
    go : (f : Found ℕ) → number s ≡ f →
        ((m : ℕ) (x : List ℕ) (i : ℕ) → numbers k (drop (suc m) s) ≡ found x i → Takes (joined x) (drop (suc m) s) i × Items k x) →
        comma_then f (numbers k) s ≡ found l j → Takes (joined l) s j × Items (suc k) l
    go missing n ih e = not_found l j e
    go (found v m) n ih e =
        let (t, q) = number_sound s v m n in
        by_test (starts_with 44 (drop m s))
        (λ c. comma_sound k v m s l j (numbers k (drop (suc m) s)) (takes_ended 44 t c) q (ih m) (rw c at e))
        (λ c.
        let g : found (v ∷ []) m ≡ found l j = rw c at e in
        let l' : l ≡ v ∷ [] = cc in
        let j' : j ≡ m = cc in
        rw (l', j') (rw joined_one t, (omega arith, omega arith, λ u w. split_mem (λ r. rw r q) nowhere w)))

past : (t : List ℕ) (b : ℕ) (u : List ℕ) → drop (suc (length t)) (t ++ b ∷ u) ≡ u
past [] b u = refl
past (x ∷ t) b u = past t b u

-- what may follow a list of decimals: no digit, and no comma
abbrev pub Over : List ℕ → Type 0
Over r = (run r ≡ 0) × (starts_with 44 r ≡ false)

numbers_complete : (k : ℕ) (l r : List ℕ) → Items k l → Over r → numbers k (joined l ++ r) ≡ found l (length (joined l))
unfolding numbers comma_then further starts_with run
numbers_complete k [] r (h, _, _) o = absurd (omega arith)
numbers_complete zero (x ∷ l) r (_, h, _) o = absurd (omega arith)
numbers_complete (suc k) (x ∷ []) r (_, _, all) (z, c) =
    rw (joined_one, number_complete x r (all x here) z, drop_at (decimal x) r (length (decimal x)) refl, c)
numbers_complete (suc k) (x ∷ y ∷ l) r (_, h, all) o =
    let u = joined (y ∷ l) ++ r in
    let e : joined (x ∷ y ∷ l) ++ r ≡ decimal x ++ 44 ∷ u = rw (← joined_more x y l, append_assoc, append_assoc) in
    let ih = numbers_complete k (y ∷ l) r (omega arith, omega arith, λ v m. all v (there m)) o in
    let size : suc (length (decimal x)) + length (joined (y ∷ l)) ≡ length (joined (x ∷ y ∷ l)) =
    rw (← joined_more x y l) (omega (arith, length-append (decimal x ++ (44 ∷ [])) (joined (y ∷ l)), length-append (decimal x) (44 ∷ []))) in
    rw (e, number_complete x (44 ∷ u) (all x here) refl, drop_at (decimal x) (44 ∷ u) (length (decimal x)) refl, past (decimal x) 44 u, ih)
    (ap (found (x ∷ y ∷ l)) size)

pub reads_numbers : (k : ℕ) → Reads (numbers k) joined (Items k) Over
reads_numbers k = record { sound = numbers_sound k; complete = numbers_complete k }

-- ---- one after the other

-- p, and the byte b, which ends what p reads
module _ {A : Type 0} {p : Reader A} {w : A → List ℕ} {Ok : A → Type 0} {Stop : List ℕ → Type 0} (b : ℕ) (h : Reads p w Ok Stop) where
  ended_sound : (s : List ℕ) (x : A) (k : ℕ) → ended p b s ≡ found x k → Takes (w x ++ (b ∷ [])) s k × Ok x
  unfolding ended closed
  ended_sound s x k e = go (p s) refl e
    where
      go : (f : Found A) → p s ≡ f → closed b f s ≡ found x k → Takes (w x ++ (b ∷ [])) s k × Ok x
      go missing g e = not_found x k e
      go (found y m) g e = by_test (starts_with b (drop m s))
          (λ c.
          let q : found y (suc m) ≡ found x k = rw c at e in
          let x' : x ≡ y = cc in
          let k' : k ≡ suc m = cc in
          let (t, o) = h.sound s y m g in
          rw (x', k') (takes_ended b t c, o))
          (λ c. not_found x k (rw c at e))

  ended_complete : ((r : List ℕ) → Stop (b ∷ r)) → (x : A) (r : List ℕ) → Ok x → Unit {0} →
      ended p b ((w x ++ (b ∷ [])) ++ r) ≡ found x (length (w x ++ (b ∷ [])))
  unfolding ended closed starts_with
  ended_complete stop x r o _ =
      let k : suc (length (w x)) ≡ length (w x ++ (b ∷ [])) = omega (arith, length-append (w x) (b ∷ [])) in
      rw (append_assoc, h.complete x (b ∷ r) o (stop r), drop_at (w x) (b ∷ r) (length (w x)) refl, eq-eqb b b refl) (ap (found x) k)

  pub reads_ended : ((r : List ℕ) → Stop (b ∷ r)) → Reads (ended p b) (λ x. w x ++ (b ∷ [])) Ok (λ r. Unit {0})
  reads_ended stop = record { sound = ended_sound; complete = ended_complete stop }

-- a number, and a byte that is no digit and so ends it
module _ (b : ℕ) (no_digit : is_digit b ≡ false) where
  over : (r : List ℕ) → run (b ∷ r) ≡ 0
  unfolding run
  over r = rw no_digit

  pub reads_number_until : Reads (ended number b) (λ x. decimal x ++ (b ∷ [])) (λ x. length (decimal x) ≤ 6) (λ r. Unit {0})
  reads_number_until = reads_ended b reads_number over

  pub reads_signed_until : Reads (ended signed_number b) (λ z. signed z ++ (b ∷ [])) (λ z. length (decimal (nat_abs z)) ≤ 6) (λ r. Unit {0})
  reads_signed_until = reads_ended b reads_signed over

-- p, and then q
module _ {A B : Type 0} {p : Reader A} {w : A → List ℕ} {Ok : A → Type 0} {q : Reader B} {v : B → List ℕ} {Ok' : B → Type 0}
    {Stop : List ℕ → Type 0} (h : Reads p w Ok (λ r. Unit {0})) (g : Reads q v Ok' Stop) where
  both_sound : (s : List ℕ) (z : A × B) (k : ℕ) → both p q s ≡ found z k → Takes (w z.0 ++ v z.1) s k × (Ok z.0 × Ok' z.1)
  unfolding both next further
  both_sound s z k e = go (p s) refl e
    where
      inner : (x : A) (m : ℕ) (f : Found B) → Takes (w x) s m → Ok x → q (drop m s) ≡ f → further m (λ y. (x, y)) f ≡ found z k →
          Takes (w z.0 ++ v z.1) s k × (Ok z.0 × Ok' z.1)
      inner x m missing t o r e = not_found z k e
      inner x m (found y j) t o r e =
          let z' : z ≡ (x, y) = cc in
          let k' : k ≡ m + j = cc in
          let (t', o') = g.sound (drop m s) y j r in
          rw (z', k') (takes_then t t', (o, o'))

      go : (f : Found A) → p s ≡ f → next f q s ≡ found z k → Takes (w z.0 ++ v z.1) s k × (Ok z.0 × Ok' z.1)
      go missing r e = not_found z k e
      go (found x m) r e = let (t, o) = h.sound s x m r in inner x m (q (drop m s)) t o refl e

  both_complete : (z : A × B) (r : List ℕ) → Ok z.0 × Ok' z.1 → Stop r →
      both p q ((w z.0 ++ v z.1) ++ r) ≡ found z (length (w z.0 ++ v z.1))
  unfolding both next further
  both_complete (x, y) r (o, o') stop =
      rw (append_assoc, h.complete x (v y ++ r) o tt, drop_at (w x) (v y ++ r) (length (w x)) refl, g.complete y r o' stop, length-append)

  pub reads_both : Reads (both p q) (λ z. w z.0 ++ v z.1) (λ z. Ok z.0 × Ok' z.1) Stop
  reads_both = record { sound = both_sound; complete = both_complete }

-- the text t, and then p, whose values f and g take to others and back
module _ {A B : Type 0} {p : Reader A} {w : A → List ℕ} {Ok : A → Type 0} {Stop : List ℕ → Type 0} (t : List ℕ) (f : A → B) (g : B → A)
    (back : (y : B) → f (g y) ≡ y) (forth : (x : A) → g (f x) ≡ x) (h : Reads p w Ok Stop) where
  behind_sound : (s : List ℕ) (y : B) (k : ℕ) → behind t f p s ≡ found y k → Takes (t ++ w (g y)) s k × Ok (g y)
  unfolding behind further
  behind_sound s y k e = by_test (begins_with t s)
      (λ c. go (p (drop (length t) s)) refl (front ((says_begins t s).to c)) (rw c at e))
      (λ c. not_found y k (rw c at e))
    where
      front : take (length t) s ≡ t → Takes t s (length t)
      front e = record { front = sym (take-append-drop (length t) s) ∙ rw e; size = refl }

      go : (r : Found A) → p (drop (length t) s) ≡ r → Takes t s (length t) → further (length t) f r ≡ found y k → Takes (t ++ w (g y)) s k × Ok (g y)
      go missing q i e = not_found y k e
      go (found x m) q i e =
          let y' : f x ≡ y = cc in
          let x' : g y ≡ x = ap g (sym y') ∙ forth x in
          let k' : k ≡ length t + m = cc in
          let (i', o) = h.sound (drop (length t) s) x m q in
          rw (x', k') (takes_then i i', o)

  behind_complete : (y : B) (r : List ℕ) → Ok (g y) → Stop r → behind t f p ((t ++ w (g y)) ++ r) ≡ found y (length (t ++ w (g y)))
  unfolding behind further
  behind_complete y r o stop =
      let c : begins_with t (t ++ (w (g y) ++ r)) ≡ true = (says_begins t _).of (take_at t (w (g y) ++ r) (length t) refl) in
      rw (append_assoc, c, drop_at t (w (g y) ++ r) (length t) refl, h.complete (g y) r o stop, back y, length-append)

  pub reads_behind : Reads (behind t f p) (λ y. t ++ w (g y)) (λ y. Ok (g y)) Stop
  reads_behind = record { sound = behind_sound; complete = behind_complete }
