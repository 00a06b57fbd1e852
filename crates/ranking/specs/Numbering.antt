-- What it says that places number things, and that there are so many of them (document 01, "Place" and "Windows").
use Rattle.std.specs.Prelude.{true, List, ◌≡◌, ℕ, ◌<◌, length}
use Rattle.weak_orders.specs.Window.{is_rank, is_height}

-- P holds of exactly N things: `place` gives each its own number below N, and `item` finds it again
pub record Numbering {A : Type 0} (P : A → Type 0) (N : ℕ) (place : A → ℕ) (item : ℕ → A) : Type 0 where
  pub place-below : (w : A) → P w → place w < N
  pub item_place : (w : A) → P w → item (place w) ≡ w
  pub item_in : (i : ℕ) → i < N → P (item i)
  pub place_item : (i : ℕ) → i < N → place (item i) ≡ i

-- there is such a numbering
abbrev pub Exactly : {A : Type 0} → ℕ → (A → Type 0) → Type 0
Exactly {A} N P = (place : A → ℕ) × (item : ℕ → A) × Numbering P N place item

-- the weak orders of n, in each form
abbrev pub HeightWindow : ℕ → List ℕ → Type 0
HeightWindow n w = (length w ≡ n) × (is_height w ≡ true)

abbrev pub RankWindow : ℕ → List ℕ → Type 0
RankWindow n w = (length w ≡ n) × (is_rank w ≡ true)
