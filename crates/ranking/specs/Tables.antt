-- What is tested over the whole of a table (document 01, "Windows").
use Rattle.std.specs.Prelude.{Bool, List, ◌≡◌, ℕ, zero, suc, ◌+◌, ◌*◌, ◌/◌, ◌%◌, ◌<◌, eqb, get_or}
use Rattle.weak_orders.specs.Window.{all, range}

-- each of the first m entries of t is what f gives for its index
unfoldable pub tabled : ℕ → (ℕ → ℕ) → List ℕ → Bool
unfolding all range
tabled m f t = all (λ i. eqb (get_or t i 0) (f i)) (range m)

-- the same as a statement
abbrev pub Entries : List ℕ → (ℕ → ℕ) → ℕ → Type 0
Entries t f m = (i : ℕ) → i < m → get_or t i 0 ≡ f i

-- document 01's recurrence for L(n, k), of the entries of a table with 17 in a row
unfoldable pub recurrence : List ℕ → ℕ → ℕ → ℕ
recurrence t zero zero = 1
recurrence t zero (suc k) = 0
recurrence t (suc n) zero = 0
recurrence t (suc n) (suc k) = suc k * (get_or t (n * 17 + suc k) 0 + get_or t (n * 17 + k) 0)

-- all 289 entries obey it
unfoldable pub is_count_table : List ℕ → Bool
unfolding tabled recurrence
is_count_table t = tabled 289 (λ i. recurrence t (i / 17) (i % 17)) t
