-- The pigeonhole principle. Assumes nothing.
use Prim.Native.Nat.{ℕ, zero, suc, ◌+◌, ◌-◌, min, ◌≤◌, ◌<◌, suc-le-suc}
use native.Mathlib.Omega.{arith}
use mathlib.Core.Path.{◌≡◌, ap}
use mathlib.Core.Logic.{◌≢◌}
use Rattle.weak_orders.specs.Window.{below}

-- The place `h` is taken out, and those above it move down by one: `down`, undone by `up`.
abbrev down : ℕ → ℕ → ℕ
down h x = x - min 1 (x - h)

abbrev up : ℕ → ℕ → ℕ
up h x = x + (1 - (h - x))

up_down : (h x : ℕ) → x ≢ h → up h (down h x) ≡ x
up_down h x d = omega arith

-- Where `n` things have places of their own below `m`, `n` is at most `m`. By induction: the last thing goes, with its place.
pub pigeonhole : (n m : ℕ) (g : (i : ℕ) → i < n → ℕ) → ((i : ℕ) (l : i < n) → g i l < m) →
    ((i j : ℕ) (l : i < n) (l' : j < n) → i < j → g i l ≢ g j l') → n ≤ m
pigeonhole zero m g below apart = omega arith
pigeonhole (suc n) zero g below apart = omega (arith, below n (omega arith))
pigeonhole (suc n) (suc m) g below apart =
    let last : n < suc n = omega arith in
    let wide : (i : ℕ) → i < n → i < suc n = λ i l. omega arith in
    let h = g n last in
    let off : (i : ℕ) (l : i < n) → g i (wide i l) ≢ h = λ i l. apart i n (wide i l) last l in
    suc-le-suc (pigeonhole n m (λ i l. down h (g i (wide i l)))
    (λ i l. omega (arith, below i (wide i l), below n last, off i l))
    (λ i j l l' lt e. apart i j (wide i l) (wide j l') lt (cc (up_down h _ (off i l), up_down h _ (off j l'), ap (up h) e))))
