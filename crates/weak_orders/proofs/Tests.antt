-- Boolean tests and what they say; members of a list. Assumes nothing.
use mathlib.Core.Bool.{Bool, true, false, cond, not, ◌&&◌, ◌||◌, false≢true}
use mathlib.Core.List.Memᴰ
use mathlib.Core.List.{List, [], ◌∷◌, Memᴰ}
use mathlib.Core.Logic.{◌⊎◌, inl, inr, ⊎_elim}
use mathlib.Core.Path.{◌≡◌, refl, sym, ◌∙◌}
use Prim.Native.Nat.{ℕ, ◌≤◌, ◌<◌}
use native.Mathlib.Omega.{arith}
use lib.Dec.{leb, ltb, eqb}
use borrow.Author.Tests.{leb-true, le-leb, ltb-true, lt-ltb, eqb-true, eq-eqb}
use Rattle.weak_orders.specs.Says.{Says}
use Rattle.weak_orders.specs.Window.{all}

infix 4 ◌∈◌
-- a stands somewhere in l
abbrev pub ◌∈◌ : {A : Type 0} → A → List A → Type 0
a ∈ l = Memᴰ a l

pub here : {A : Type 0} {a : A} {l : List A} → a ∈ a ∷ l
here = Memᴰ.head refl

pub there : {A : Type 0} {a b : A} {l : List A} → a ∈ l → a ∈ b ∷ l
there = Memᴰ.tail

pub nowhere : {A B : Type 0} {a : A} → a ∈ [] → B
nowhere m = absurd (Memᴰ.not-nil m)

-- a member of a cons is its head, or a member of the rest
pub split_mem : {A B : Type 0} {a b : A} {l : List A} → (a ≡ b → B) → (a ∈ l → B) → a ∈ b ∷ l → B
split_mem f g m = ⊎_elim f g (Memᴰ.cases_cons m)

-- a test goes one way or the other
pub by_test : {C : Type 0} (b : Bool) → (b ≡ true → C) → (b ≡ false → C) → C
by_test true f g = f refl
by_test false f g = g refl

pub true? : (b : Bool) → Dec (b ≡ true)
true? true = yes refl
true? false = no false≢true

pub not_true→false : (b : Bool) → ¬ (b ≡ true) → b ≡ false
not_true→false true n = absurd (n refl)
not_true→false false n = refl

pub false→not_true : (b : Bool) → b ≡ false → ¬ (b ≡ true)
false→not_true b e t = false≢true (sym e ∙ t)

-- 1 where the test passes, 0 where it fails
abbrev pub bit : Bool → ℕ
bit b = cond b 1 0

pub bit≤1 : (b : Bool) → bit b ≤ 1
bit≤1 true = omega arith
bit≤1 false = omega arith

pub says? : {b : Bool} {A : Type 0} → Says b A → Dec A
says? {b} s = elim (true? b) [ yes t ↦ yes (s.to t) | no n ↦ no (λ a. n (s.of a)) ]

pub says_no : {b : Bool} {A : Type 0} → Says b A → ¬ A → b ≡ false
says_no {b} s n = not_true→false b (λ t. n (s.to t))

pub cond_yes : {b : Bool} {A : Type 0} → Says b A → A → (x y : ℕ) → cond b x y ≡ x
cond_yes {b} s a x y = rw (s.of a)

pub cond_no : {b : Bool} {A : Type 0} → Says b A → ¬ A → (x y : ℕ) → cond b x y ≡ y
cond_no {b} s n x y = rw (says_no s n)

-- the same said in other words
pub says_as : {b : Bool} {A B : Type 0} → Says b A → (A → B) → (B → A) → Says b B
says_as s f g = record { to = λ t. f (s.to t); of = λ h. s.of (g h) }

pub says_itself : (b : Bool) → Says b (b ≡ true)
says_itself b = record { to = λ t. t; of = λ t. t }

-- a test that says what another says is the same test
pub same_test : {b c : Bool} {A : Type 0} → Says b A → Says c A → b ≡ c
same_test {b} {c} s t = by_test b
    (λ e. e ∙ sym (t.of (s.to e)))
    (λ e. e ∙ sym (says_no t (λ a. false→not_true b e (s.of a))))

pub says_eq : (m n : ℕ) → Says (eqb m n) (m ≡ n)
says_eq m n = record { to = eqb-true m n; of = eq-eqb m n }

pub says_lt : (m n : ℕ) → Says (ltb m n) (m < n)
says_lt m n = record { to = ltb-true m n; of = lt-ltb m n }

pub says_le : (m n : ℕ) → Says (leb m n) (m ≤ n)
says_le m n = record { to = leb-true m n; of = le-leb m n }

pub says_and : {a b : Bool} {A B : Type 0} → Says a A → Says b B → Says (a && b) (A × B)
says_and {a = true} s t = record { to = λ h. (s.to refl, t.to h); of = λ h. t.of h.1 }
says_and {a = false} s t = record { to = λ h. absurd (false≢true h); of = λ h. s.of h.0 }

pub says_or : {a b : Bool} {A B : Type 0} → Says a A → Says b B → Says (a || b) (A ⊎ B)
says_or {a = true} s t = record { to = λ h. inl (s.to refl); of = λ h. refl }
says_or {a = false} s t = record { to = λ h. inr (t.to h); of = ⊎_elim (λ x. absurd (false≢true (s.of x))) t.of }

pub says_not : {a : Bool} {A : Type 0} → Says a A → Says (not a) (¬ A)
says_not {a = true} s = record { to = λ h. absurd (false≢true h); of = λ n. absurd (n (s.to refl)) }
says_not {a = false} s = record { to = λ h x. false≢true (s.of x); of = λ n. refl }

pub says_all : {X : Type 0} {p : X → Bool} {A : X → Type 0} → ((x : X) → Says (p x) (A x)) →
    (l : List X) → Says (all p l) ((x : X) → x ∈ l → A x)
unfolding all
says_all s [] = record { to = λ t x m. nowhere m; of = λ h. refl }
says_all s (x ∷ l) =
    let both = says_and (s x) (says_all s l) in
    record { to = λ t y m. split_mem (λ e. rw e (both.to t).0) ((both.to t).1 y) m; of = λ h. both.of (h x here, λ y m. h y (there m)) }
