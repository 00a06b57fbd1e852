-- How large the numbers get: none is more than the number of weak orders. Assumes nothing.
use mathlib.Core.Path.{◌≡◌, refl, ap, ap₂, ◌∙◌}
use mathlib.Core.List.{List, [], ◌∷◌, ◌++◌, append-nil}
use Prim.Native.Nat.{ℕ, zero, suc, ◌+◌, ◌-◌, ◌≤◌, ◌<◌}
use native.Mathlib.Nat.{zero-add, suc-add}
use native.Mathlib.Omega.{arith}
use lib.ListN.{length}
use lib.Seq.{append_snoc}
use Rattle.weak_orders.specs.Window.{range, different, bound}
use Rattle.weak_orders.proofs.HeightForm.{says_height, height_form}
use Rattle.weak_orders.proofs.Lists.{in_range, of_range, length-range}
use Rattle.weak_orders.proofs.Symbols.{bound_back}
use Rattle.ranking.specs.Counts.{a, ways, ways_from}
use Rattle.ranking.proofs.Completions.{endings, endings_suc, endings_ways, endings_all}
use Rattle.ranking.proofs.Sums.{term≤sum}
use Rattle.ranking.proofs.CountLaws.{ways_from-next, a_mono}

-- a prefix has no more endings than a shorter one
pub endings_part : (n : ℕ) (p : List ℕ) (v r : ℕ) → v < n → endings n (p ++ (v ∷ [])) r ≤ endings n p (suc r)
endings_part n p v r l = omega (arith, endings_suc n p r, term≤sum (λ v. endings n (p ++ (v ∷ [])) r) n v l)

endings_append : (n : ℕ) (p s : List ℕ) (r : ℕ) → bound s ≤ n → endings n (p ++ s) r ≤ endings n p (length s + r)
unfolding bound
endings_append n p [] r h = omega (arith, ap (λ q. endings n q r) (append-nil p), ap (endings n p) (zero-add r))
endings_append n p (x ∷ s) r h = omega (
  arith,
  ap (λ q. endings n q r) (append_snoc p x s),
  ap (endings n p) (suc-add (length s) r),
  endings_append n (p ++ (x ∷ [])) s r (omega arith),
  endings_part n p x (length s + r) (omega arith),
)

pub endings≤a : (n : ℕ) (p : List ℕ) (r : ℕ) → bound p ≤ n → length p + r ≡ n → endings n p r ≤ a n
endings≤a n p r h e = omega (arith, endings_append n [] p r h, ap (endings n []) e, endings_all n)

-- the prefix 0 1 … p - 1
bound-range : (n : ℕ) → bound (range n) ≡ n
unfolding range bound
bound-range zero = refl
bound-range (suc n) = omega (arith, bound_back (range n) n, bound-range n)

different-range : (n : ℕ) → different (range n) ≡ n
different-range n =
    height_form (range n) ((says_height (range n)).of (λ x m u l. in_range n u (omega (arith, of_range n m))))
    ∙ bound-range n

-- has these ways to be completed
pub ways_from≤a : (r m p : ℕ) → ways_from r m p ≤ a (p + r)
ways_from≤a r zero p =
    let q = range p in
    let b = bound-range p in
    let e = length-range p in
    let same : bound q - different q ≡ 0 = omega (arith, different-range p) in
    omega (
      arith,
      endings≤a (p + r) q r (omega arith) (omega arith),
      endings_ways (p + r) q r (omega arith) (omega arith),
      ap₂ (ways_from r) same (different-range p),
    )
ways_from≤a r (suc m) p = omega (arith, ways_from-next r m p, ways_from≤a r m p)

pub ways≤a : (r m p : ℕ) → ways r m p ≤ a (p + r)
ways≤a r m p = omega (arith, ways_from-next r m p, ways_from≤a r m p)

-- a(17), which fits 64 bits; so do all of the numbers above, up to 17
abbrev pub most : ℕ
most = 130370767029135901

pub a≤most : (n : ℕ) → n ≤ 17 → a n ≤ most
unfolding a
a≤most n h = let e : a 17 ≡ most = refl in omega (arith, a_mono n 17 h)

pub ways_from_small : (r m p : ℕ) → r + p ≤ 17 → ways_from r m p ≤ most
ways_from_small r m p h = omega (arith, ways_from≤a r m p, a≤most (p + r) (omega arith))

pub ways_small : (r m p : ℕ) → r + p ≤ 17 → ways r m p ≤ most
ways_small r m p h = omega (arith, ways≤a r m p, a≤most (p + r) (omega arith))
