-- What code finds out about a prefix, and the completions with each symbol behind it by that. Assumes nothing.
use mathlib.Core.Bool.{false, cond}
use mathlib.Core.List.{List, [], ◌∷◌, ◌++◌}
use mathlib.Core.Path.{◌≡◌, sym, ap, ap₂, ◌∙◌}
use Prim.Native.Nat.{ℕ, suc, max, ◌+◌, ◌-◌, ◌^◌, ◌≤◌, ◌<◌}
use native.Mathlib.Omega.{arith}
use lib.Dec.{ltb}
use lib.ListN.{length, get_or}
use Rattle.weak_orders.specs.Tables.{tally}
use Rattle.weak_orders.specs.Window.{occurs, different, bound}
use Rattle.weak_orders.proofs.Symbols.{bound_back, different≤bound, different≤length, different_new}
use Rattle.weak_orders.proofs.Tallies.{tally-num}
use Rattle.weak_orders.proofs.Tests.{by_test}
use Rattle.ranking.specs.Counts.{ways_from}
use Rattle.ranking.specs.Dictionary.{completions}
use Rattle.ranking.specs.Tables.{Entries}
use Rattle.ranking.proofs.Prefixes.{completions_old, completions_new}
use Rattle.ranking.proofs.Size.{ways_from_small}

-- of the prefix p of a window of n: how often each symbol occurs, one more than the largest, how many are different, and the ways to
-- fill the places after the next
pub record Known (n : ℕ) (p seen : List ℕ) (top present : ℕ) (totals : List ℕ) : Type 0 where
  pub short : length p < n
  pub few : n ≤ 16
  pub low : bound p ≤ n
  pub occurring : seen ≡ tally p
  pub largest : top ≡ bound p
  pub symbols : present ≡ different p
  pub ways : Entries totals (λ m. ways_from (n - suc (length p)) m present) 17

-- the number of heights that are missing with v behind p, v itself among them where p does not hold it
abbrev pub missing : ℕ → ℕ → ℕ → ℕ
missing top present v = max top (v + 1) - present

abbrev pub counted : List ℕ → ℕ → ℕ → List ℕ → ℕ → ℕ
counted seen top present totals v =
    let m = missing top present v in
    cond (ltb 0 (get_or seen v 0)) (get_or totals m 0) (get_or totals m 0 + get_or totals (m - 1) 0)

module _ {n : ℕ} {p seen : List ℕ} {top present : ℕ} {totals : List ℕ} (K : Known n p seen top present totals) where
  pub symbols≤top : present ≤ top
  symbols≤top = omega (arith, K.largest, K.symbols, different≤bound p)

  pub places_and_symbols : n - suc (length p) + present ≤ 16
  places_and_symbols = omega (arith, K.symbols, K.few, K.short, different≤length p)

  pub ways_fit : (m : ℕ) → m < 17 → get_or totals m 0 < 2 ^ 63
  ways_fit m l = omega (arith, K.ways m l, ways_from_small (n - suc (length p)) m present (omega (arith, places_and_symbols)))

  seen_occurs : (v : ℕ) → v < n → ltb 0 (get_or seen v 0) ≡ occurs p v
  unfolding occurs
  seen_occurs v l = ap (ltb 0) (ap (λ t. get_or t v 0) K.occurring ∙ tally-num p v (omega (arith, K.few)))

  pub missing<17 : (v : ℕ) → v < n → missing top present v < 17
  missing<17 v l = omega (arith, K.few, K.low, K.largest)

  -- a symbol that p does not hold is missing
  pub missing_itself : (v : ℕ) → v < n → ltb 0 (get_or seen v 0) ≡ false → 0 < missing top present v
  missing_itself v l e =
      let new = different_new p v (sym (seen_occurs v l) ∙ e) in
      omega (arith, K.largest, K.symbols, new, different≤bound (p ++ (v ∷ [])), bound_back p v)

  pub counted-completions : (v : ℕ) → v < n → counted seen top present totals v ≡ completions n (p ++ (v ∷ []))
  counted-completions v l =
      let m = missing top present v in
      let r = n - suc (length p) in
      let e : m ≡ max (bound p) (suc v) - different p = omega (arith, K.largest, K.symbols) in
      let o = seen_occurs v l in
      let at = K.ways m (missing<17 v l) in
      by_test (occurs p v)
      (λ t. rw (o, t) (at ∙ ap₂ (ways_from r) e K.symbols ∙ sym (completions_old n p v K.short t)))
      (λ t. rw (o, t) (omega (
        arith,
        at,
        K.ways (m - 1) (omega (arith, missing<17 v l)),
        completions_new n p v K.short t m e,
        ap (ways_from r m) K.symbols,
        ap (ways_from r (m - 1)) K.symbols,
      )))
