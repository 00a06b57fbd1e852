-- Laws of lists: members, `all`, `count`, `range`, sums over a list, the first element that passes a test and the last element that fails a test. Assumes nothing.
use mathlib.Core.Bool.{Bool, true, false, ◌&&◌}
use mathlib.Core.List.Memᴰ
use mathlib.Core.List.Memᴰ.{head}
use mathlib.Core.List.Memᴰ.{tail}
use mathlib.Core.List.{List, [], ◌∷◌, ◌++◌, map}
use mathlib.Core.List.{head-eq_of_cons-eq, tail-eq_of_cons-eq, append_assoc, append-nil}
use mathlib.Core.Logic.{⊎_elim}
use mathlib.Core.Path.{◌≡◌, refl, sym, ap, ap₂, subst, ◌∙◌}
use Prim.Native.Nat.{ℕ, zero, suc, ◌+◌, ◌*◌, ◌≤◌, ◌<◌}
use native.Mathlib.Nat.{add-zero, add-suc, suc-mul}
use native.Mathlib.Numerals.{add-one}
use native.Mathlib.Omega.{arith}
use native.Mathlib.Decide.{dec_lt}
use lib.Dec.{eqb}
use lib.ListN.{length, get_or, take, drop, take-append-drop, drop_of_length-le, replicate, length-append, get_or-append}
use lib.Seq.{drop-cons, get_or_at}
use Rattle.weak_orders.specs.Says.{Says}
use Rattle.weak_orders.specs.Window.{all, count, first_index, range}
use Rattle.weak_orders.proofs.Tests.{◌∈◌, here, there, nowhere, split_mem, by_test, true?, not_true→false, bit, bit≤1, says?, says_as}
use Rattle.weak_orders.proofs.Tests.{says_itself, says_eq, says_all}

-- ---- members

pub mem_replicate : (n a x : ℕ) → x ∈ replicate n a → x ≡ a
mem_replicate zero a x m = nowhere m
mem_replicate (suc n) a x m = split_mem (λ e. e) (mem_replicate n a x) m

pub mem_take : (k : ℕ) (l : List ℕ) (v : ℕ) → v ∈ take k l → v ∈ l
mem_take k l v m = rw take-append-drop at (Memᴰ.append_left (drop k l) m)

-- an element has an index, and an index an element
pub get_or_in : {A : Type 0} (xs : List A) (i : ℕ) (d : A) → i < length xs → get_or xs i d ∈ xs
get_or_in [] i d h = absurd (omega arith)
get_or_in (x ∷ xs) zero d h = here
get_or_in (x ∷ xs) (suc i) d h = there (get_or_in xs i d (omega arith))

pub in_get_or : {A : Type 0} {x : A} {xs : List A} (d : A) → x ∈ xs → (i : ℕ) × (i < length xs) × (get_or xs i d ≡ x)
in_get_or d (head e) = (0, omega arith, sym e)
in_get_or d (tail m) = let (i, l, e) = in_get_or d m in (suc i, omega arith, e)

-- a list of one symbol only
pub says_same : (a x : ℕ) → Says (eqb a x) (x ≡ a)
says_same a x = says_as (says_eq a x) sym sym

pub all_same : (a : ℕ) (w : List ℕ) → ((x : ℕ) → x ∈ w → x ≡ a) → w ≡ replicate (length w) a
all_same a [] h = refl
all_same a (x ∷ b) h = ap₂ ◌∷◌ (h x here) (all_same a b (λ y m. h y (there m)))

-- maps that agree on the elements
pub map_cong : {A B : Type 0} (f g : A → B) (xs : List A) → ((x : A) → x ∈ xs → f x ≡ g x) → map f xs ≡ map g xs
map_cong f g [] h = refl
map_cong f g (x ∷ xs) h = cc (h x here, map_cong f g xs (λ y m. h y (there m)))

-- an element of a map is that of the list, mapped
pub get_or_map : (f : ℕ → ℕ) (l : List ℕ) (j : ℕ) → j < length l → get_or (map f l) j 0 ≡ f (get_or l j 0)
get_or_map f [] j lt = absurd (omega arith)
get_or_map f (x ∷ l) zero lt = refl
get_or_map f (x ∷ l) (suc j) lt = get_or_map f l j (omega arith)

pub map-map : {A B C : Type 0} (g : B → C) (f : A → B) (xs : List A) → map g (map f xs) ≡ map (λ x. g (f x)) xs
map-map g f [] = refl
map-map g f (x ∷ xs) = cc (map-map g f xs)

pub map_same : {A : Type 0} (xs : List A) → map (λ x. x) xs ≡ xs
map_same [] = refl
map_same (x ∷ xs) = cc (map_same xs)

-- ---- `count` and `all`

module _ {A : Type 0} (p : A → Bool) where
  pub count_nil : count p [] ≡ 0
  unfolding count
  count_nil = refl

  pub count_cons : (x : A) (xs : List A) → count p (x ∷ xs) ≡ bit (p x) + count p xs
  unfolding count
  count_cons x xs = by_test (p x) (λ e. rw e (omega arith)) (λ e. rw e (omega arith))

  pub count_append : (xs ys : List A) → count p (xs ++ ys) ≡ count p xs + count p ys
  count_append [] ys = omega (arith, count_nil)
  count_append (x ∷ xs) ys = omega (arith, count_cons x (xs ++ ys), count_cons x xs, count_append xs ys)

  pub count_le_length : (xs : List A) → count p xs ≤ length xs
  count_le_length [] = omega (arith, count_nil)
  count_le_length (x ∷ xs) = omega (arith, count_cons x xs, bit≤1 (p x), count_le_length xs)

  pub all_in : {xs : List A} {x : A} → all p xs ≡ true → x ∈ xs → p x ≡ true
  all_in {xs} {x} h m = (says_all (λ y. says_itself (p y)) xs).to h x m

  pub all_of : (xs : List A) → ((x : A) → x ∈ xs → p x ≡ true) → all p xs ≡ true
  all_of xs h = (says_all (λ y. says_itself (p y)) xs).of h

  -- all from i on pass just if the first does, and those behind it
  pub all_from : (d : A) (xs : List A) (i : ℕ) → i < length xs → all p (drop i xs) ≡ (p (get_or xs i d) && all p (drop (i + 1) xs))
  unfolding all
  all_from d xs i h = rw (drop-cons xs i d h, add-one i)

  pub all_past : (xs : List A) (i : ℕ) → length xs ≤ i → all p (drop i xs) ≡ true
  unfolding all
  all_past xs i h = rw (drop_of_length-le xs h)

-- what passes one test passes the other
pub count_mono : {A : Type 0} (p q : A → Bool) (xs : List A) → ((x : A) → x ∈ xs → p x ≡ true → q x ≡ true) → count p xs ≤ count q xs
count_mono p q [] h = omega (arith, count_nil p, count_nil q)
count_mono p q (x ∷ xs) h =
    let up : bit (p x) ≤ bit (q x) = by_test (p x) (λ e. rw (e, h x here e) (omega arith)) (λ e. rw e (omega arith)) in
    omega (arith, count_cons p x xs, count_cons q x xs, count_mono p q xs (λ y m. h y (there m)))

pub count_cong : {A : Type 0} (p q : A → Bool) (xs : List A) → ((x : A) → x ∈ xs → p x ≡ q x) → count p xs ≡ count q xs
count_cong p q xs h = omega (arith, count_mono p q xs (λ x m e. sym (h x m) ∙ e), count_mono q p xs (λ x m e. h x m ∙ e))

pub count_map : {A B : Type 0} (p : B → Bool) (f : A → B) (xs : List A) → count p (map f xs) ≡ count (λ x. p (f x)) xs
count_map p f [] = omega (arith, count_nil p, count_nil (λ x. p (f x)))
count_map p f (x ∷ xs) = omega (arith, count_cons p (f x) (map f xs), count_cons (λ x. p (f x)) x xs, count_map p f xs)

module _ {A : Type 0} (p : A → Bool) where
  pub count_none : (xs : List A) → ((x : A) → x ∈ xs → p x ≡ false) → count p xs ≡ 0
  count_none [] h = count_nil p
  count_none (x ∷ xs) h =
      let e : bit (p x) ≡ 0 = rw (h x here) in
      omega (arith, count_cons p x xs, count_none xs (λ y m. h y (there m)))

  pub count-pos : {x : A} {xs : List A} → x ∈ xs → p x ≡ true → 0 < count p xs
  count-pos (head {x = y} {xs = ys} e) t =
      let e : bit (p y) ≡ 1 = rw (← e, t) in
      omega (arith, count_cons p y ys)
  count-pos (tail {x = y} {xs = ys} m) t = omega (arith, count_cons p y ys, count-pos m t)

  pub count_find : (xs : List A) → 0 < count p xs → (x : A) × (x ∈ xs) × (p x ≡ true)
  unfolding count
  count_find [] h = absurd (omega arith)
  count_find (x ∷ xs) h = by_test (p x)
      (λ e. (x, here, e))
      (λ e. let (y, m, t) = count_find xs (rw e at h) in (y, there m, t))

-- ---- the first element that passes a test

pub first_index_lem : {A : Type 0} (f : A → Bool) (l : List A) (d : A) (j : ℕ) → j < length l → f (get_or l j d) ≡ true →
    (first_index f l ≤ j) × (f (get_or l (first_index f l) d) ≡ true)
unfolding first_index
first_index_lem f [] d j lt t = absurd (omega arith)
first_index_lem f (x ∷ l) d zero lt t = rw (t) (omega arith, t)
first_index_lem f (x ∷ l) d (suc j) lt t = elim (true? (f x)) [
  | yes h ↦ rw (h) (omega arith, h)
  | no h ↦ rw (not_true→false (f x) h) (let (le, t') = first_index_lem f l d j (omega arith) t in (omega arith, t'))
]

-- where no element passes the test it is the length
pub first_index_none : {A : Type 0} (f : A → Bool) (l : List A) → ((x : A) → x ∈ l → f x ≡ false) → first_index f l ≡ length l
unfolding first_index
first_index_none f [] h = refl
first_index_none f (x ∷ l) h = rw (h x here) (ap suc (first_index_none f l (λ y m. h y (there m))))

-- ---- `range`

pub in_range : (n v : ℕ) → v < n → v ∈ range n
unfolding range
in_range zero v h = absurd (omega arith)
in_range (suc n) v h = elim (dec_lt v n) [
  | yes l ↦ Memᴰ.append_left (n ∷ []) (in_range n v l)
  | no l ↦ Memᴰ.append_right (range n) (head (omega arith))
]

pub of_range : (n : ℕ) {v : ℕ} → v ∈ range n → v < n
unfolding range
of_range zero m = nowhere m
of_range (suc n) m = ⊎_elim
    (λ m. omega (arith, of_range n m))
    (λ m. omega (arith, Memᴰ.eq_of_singleton m))
    (Memᴰ.append_cases (range n) m)

pub length-range : (n : ℕ) → length (range n) ≡ n
unfolding range
length-range zero = refl
length-range (suc n) = omega (arith, length-append (range n) (n ∷ []), length-range n)

pub get_or_range : (n j : ℕ) → j < n → get_or (range n) j 0 ≡ j
unfolding range
get_or_range zero j lt = absurd (omega arith)
get_or_range (suc n) j lt = elim (dec_lt j n) [
  | yes l ↦ get_or-append (range n) (n ∷ []) 0 j (omega (arith, length-range n)) ∙ get_or_range n j l
  | no l ↦ get_or_at (range n) n [] 0 j (omega (arith, length-range n)) ∙ omega arith
]

pub get_or_map-range : (f : ℕ → ℕ) (n j : ℕ) → j < n → get_or (map f (range n)) j 0 ≡ f j
get_or_map-range f n j lt = get_or_map f (range n) j (omega (arith, length-range n)) ∙ ap f (get_or_range n j lt)

-- a list over the numbers below m + k, in two parts
map_back : {A B : Type 0} (g : A → B) (l : List A) (x : A) → map g (l ++ (x ∷ [])) ≡ map g l ++ (g x ∷ [])
map_back g [] x = refl
map_back g (y ∷ l) x = ap (λ k. g y ∷ k) (map_back g l x)

pub map_range : {A : Type 0} (g : ℕ → A) (m k : ℕ) → map g (range (m + k)) ≡ map g (range m) ++ map (λ i. g (m + i)) (range k)
unfolding range
map_range g m zero = rw add-zero (sym (append-nil (map g (range m))))
map_range g m (suc k) = rw add-suc (
    map_back g (range (m + k)) (m + k)
    ∙ ap (λ l. l ++ (g (m + k) ∷ [])) (map_range g m k)
    ∙ append_assoc (map g (range m)) (map (λ i. g (m + i)) (range k)) (g (m + k) ∷ [])
    ∙ ap (λ l. map g (range m) ++ l) (sym (map_back (λ i. g (m + i)) (range k) k)))

pub count-range : (p : ℕ → Bool) (n : ℕ) → count p (range (suc n)) ≡ count p (range n) + bit (p n)
unfolding range
count-range p n = omega (arith, count_append p (range n) (n ∷ []), count_cons p n [], count_nil p)

-- a test that the numbers below d pass, and none from d on
pub count-below : (p : ℕ → Bool) (d n : ℕ) → d ≤ n → ((i : ℕ) → i < d → p i ≡ true) → ((i : ℕ) → d ≤ i → i < n → p i ≡ false) →
    count p (range n) ≡ d
unfolding range count
count-below p d zero le pass fail = omega arith
count-below p d (suc n) le pass fail = elim (dec_lt d (suc n)) [
  | yes lt ↦
      let none : bit (p n) ≡ 0 = rw (fail n (omega arith) (omega arith)) in
      omega (arith, count-range p n, count-below p d n (omega arith) pass (λ i l l'. fail i l (omega arith)))
  | no ge ↦
      let one : bit (p n) ≡ 1 = rw (pass n (omega arith)) in
      omega (arith, count-range p n, count-below p n n (omega arith) (λ i l. pass i (omega arith)) (λ i l l'. absurd (omega arith)))
]

pub says_below : {p : ℕ → Bool} {A : ℕ → Type 0} → ((x : ℕ) → Says (p x) (A x)) → (n : ℕ) →
    Says (all p (range n)) ((x : ℕ) → x < n → A x)
says_below s n = says_as (says_all s (range n)) (λ h x lt. h x (in_range n x lt)) (λ h x m. h x (of_range n m))

-- ---- the sum of f x over the elements of a list

unfoldable pub total : (ℕ → ℕ) → List ℕ → ℕ
total f [] = 0
total f (x ∷ l) = f x + total f l

pub total_append : (f : ℕ → ℕ) (l k : List ℕ) → total f (l ++ k) ≡ total f l + total f k
unfolding total
total_append f [] k = omega arith
total_append f (x ∷ l) k = omega (arith, total_append f l k)

pub total_le : (f : ℕ → ℕ) (h : ℕ) (l : List ℕ) → ((x : ℕ) → x ∈ l → f x ≤ h) → total f l ≤ length l * h
unfolding total
total_le f h [] le = omega arith
total_le f h (x ∷ l) le = rw (suc-mul (length l) h) (omega (arith, le x here, total_le f h l (λ y m. le y (there m))))

-- ---- the last element that fails a test, where one does; there is but one such place

pub last_fail : {X : Type 0} {p : X → Bool} {A : X → Type 0} → ((x : X) → Says (p x) (A x)) →
    (l : List X) → ¬ ((x : X) → x ∈ l → A x) →
    (k : List X) × (s : X) × (r : List X) × (l ≡ k ++ (s ∷ r)) × (¬ A s) × ((x : X) → x ∈ r → A x)
last_fail d [] n = absurd (n (λ x m. nowhere m))
last_fail {A = A} d (x ∷ l) n = elim (says? (says_all d l)) [
  | yes h ↦ ([], x, l, refl, (λ a. n (λ y m. split_mem (λ e. subst A (sym e) a) (h y) m)), h)
  | no f ↦ let (k, s, r, e, g, h) = last_fail d l f in (x ∷ k, s, r, ap (λ l. x ∷ l) e, g, h)
]

pub last_unique : {A : Type 0} (Q : A → Type 0) (k : List A) (s : A) (r k' : List A) (s' : A) (r' : List A) →
    ¬ Q s → ((x : A) → x ∈ r → Q x) → ¬ Q s' → ((x : A) → x ∈ r' → Q x) → k ++ (s ∷ r) ≡ k' ++ (s' ∷ r') →
    (k ≡ k') × (s ∷ r ≡ s' ∷ r')
last_unique Q [] s r [] s' r' f h f' h' e = (refl, e)
last_unique Q [] s r (x ∷ k') s' r' f h f' h' e =
    absurd (f' (h s' (rw (tail-eq_of_cons-eq e) (Memᴰ.append_right k' here))))
last_unique Q (x ∷ k) s r [] s' r' f h f' h' e =
    absurd (f (h' s (rw (← tail-eq_of_cons-eq e) (Memᴰ.append_right k here))))
last_unique Q (x ∷ k) s r (x' ∷ k') s' r' f h f' h' e =
    let (e₁, e₂) = last_unique Q k s r k' s' r' f h f' h' (tail-eq_of_cons-eq e) in
    (ap₂ ◌∷◌ (head-eq_of_cons-eq e) e₁, e₂)
