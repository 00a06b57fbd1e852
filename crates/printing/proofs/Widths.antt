-- How many bytes a line takes at most. Assumes nothing.
use mathlib.Core.List.{List, [], ◌∷◌, ◌++◌}
use mathlib.Core.Path.{◌≡◌}
use Prim.Native.Nat.{ℕ, suc, ◌-◌, ◌*◌, ◌^◌, ◌≤◌, ◌<◌}
use native.Mathlib.Decide.{dec_lt}
use native.Mathlib.Omega.{arith}
use lib.IntN.{ℤ, pos, negsuc}
use lib.ListN.{length, get_or, take, length-append, length-take, get_or-eq_default}
use lib.Seq.{get_or-take}
use lib.Signed.{mag}
use Rattle.weak_orders.proofs.Tests.{◌∈◌, here, there}
use Rattle.weak_orders.proofs.Lists.{mem_take, in_get_or}
use Rattle.levels.specs.Level.{entry, level_of}
use Rattle.frames.specs.Answer.{newest}
use Rattle.levels.proofs.Sizes.{level_size}
use Rattle.decimals.specs.Text.{decimal, signed, commaed, joined}
use Rattle.printing.specs.Printing.{line_text, step_line, last_line}
use Rattle.printing.specs.declared.Printing.{Printing}
use Rattle.decimals.proofs.Digits.{decimal_width}

signed_width : (z : ℤ) → mag z < 100000000 → length (signed z) ≤ 10
unfolding signed
signed_width (pos n) h = omega (arith, decimal_width 8 n (omega arith))
signed_width (negsuc n) h = omega (arith, decimal_width 8 (suc n) (omega arith))

commaed_width : (l : List ℕ) → ((v : ℕ) → v ∈ l → v < 256) → length (commaed l) ≤ 4 * length l
unfolding commaed
commaed_width [] h = omega arith
commaed_width (x ∷ l) h = omega (
  arith,
  length-append (decimal x) (commaed l),
  decimal_width 2 x (omega (arith, h x here)),
  commaed_width l (λ v m. h v (there m)),
)

joined_width : (l : List ℕ) → ((v : ℕ) → v ∈ l → v < 256) → length (joined l) ≤ 4 * length l
unfolding joined
joined_width [] h = omega arith
joined_width (x ∷ l) h = omega (
  arith,
  length-append (decimal x) (commaed l),
  decimal_width 2 x (omega (arith, h x here)),
  commaed_width l (λ v m. h v (there m)),
)

-- the fields of a line with their ends
pub line_width : (k symbol : ℕ) (level : ℤ) (w : List ℕ) → k < 2 ^ 64 → symbol < 256 → mag level < 100000000 → length w ≤ 16 →
    ((v : ℕ) → v ∈ w → v < 256) → length (line_text k symbol level w) ≤ 128
unfolding line_text
line_width k symbol level w hk hs hl hw all =
    let t₂ = decimal symbol ++ (32 ∷ []) in
    let t₃ = signed level ++ (32 ∷ []) in
    let t₄ = joined w ++ (10 ∷ []) in
    omega (
      arith,
      length-append (decimal k ++ (32 ∷ [])) (t₂ ++ (t₃ ++ t₄)),
      length-append (decimal k) (32 ∷ []),
      length-append t₂ (t₃ ++ t₄),
      length-append (decimal symbol) (32 ∷ []),
      length-append t₃ t₄,
      length-append (signed level) (32 ∷ []),
      length-append (joined w) (10 ∷ []),
      decimal_width 19 k (omega arith),
      decimal_width 2 symbol (omega arith),
      signed_width level hl,
      joined_width w all,
    )

-- what the fields of a state can hold
pub record Held (p : Printing) : Type 0 where
  pub done : p.done < 2 ^ 64
  pub top : mag p.round.setting.top ≤ 32768
  pub spacing : p.round.setting.spacing < 65536
  pub entries : (d : ℕ) → mag (entry p.round.setting.table d) ≤ 32768
  pub long : length p.round.window ≡ 16
  pub symbols : (i : ℕ) → get_or p.round.window i 0 < 256

symbol_below : (w : List ℕ) (n i : ℕ) → ((i : ℕ) → get_or w i 0 < 256) → get_or (take n w) i 0 < 256
symbol_below w n i h = elim (dec_lt i n) [
  | yes l ↦ rw (get_or-take n w i 0 l) (h i)
  | no l ↦ rw (get_or-eq_default (take n w) 0 {n = i} (omega (arith, length-take n w))) (omega arith)
]

pub last_line_width : (p : Printing) → Held p → length (last_line p) ≤ 128
unfolding last_line step_line newest
last_line_width p h =
    let w = take p.round.n p.round.window in
    let s = symbol_below p.round.window p.round.n (length w - 1) h.symbols in
    line_width p.done (newest w) (level_of p.round.rule p.round.setting (newest w)) w h.done s
    (level_size p.round.rule p.round.setting (newest w) h.top h.spacing h.entries s) (omega (arith, length-take p.round.n p.round.window, h.long))
    (λ v m. let (i, _, e) = in_get_or 0 (mem_take p.round.n p.round.window v m) in rw (← e) (h.symbols i))
