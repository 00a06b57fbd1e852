-- The three successor rules (document 01, "Windows"; 002, Algorithm 1 and section 4), and one step.
use Rattle.std.specs.Prelude.{Bool, true, false, cond, not, ◌&&◌, ◌||◌, List, [], ◌∷◌, ◌≡◌, ℕ, zero, suc, ◌+◌, ◌-◌, leb, ltb, eqb, length, take, drop}
use Rattle.weak_orders.specs.Window.{all, num, is_rank, is_height, shifted}
use Rattle.rotations.specs.Rotation.{start, is_greatest}

-- "is 1 or occurs once in w", of document 01's cases 3 and 4
unfoldable pub single : List ℕ → ℕ → Bool
unfolding num
single w v = eqb v 1 || eqb (num w v) 1

-- document 01's "plain": no symbol but 1 repeats
unfoldable pub is_plain : List ℕ → Bool
unfolding all single
is_plain w = all (single w) w

-- document 01's p for v = w1: the largest symbol of w below v, and 0 where there is none
unfoldable pub largest_below : List ℕ → ℕ → ℕ
largest_below [] v = 0
largest_below (x ∷ w) v = cond (ltb x v && ltb (largest_below w v) x) x (largest_below w v)

-- the symbols w_i with 2 ≤ i < t, indices counted from 1
unfoldable pub before : ℕ → List ℕ → List ℕ
before t w = drop 1 (take (t - 1) w)

-- document 01's case 3, for the window with the first symbol x and the others b
unfoldable pub case3 : ℕ → List ℕ → Bool
unfolding is_plain num all single before start
case3 x b =
    let w = x ∷ b in
    not (is_plain w) && (ltb 1 x && (ltb 1 (num w x) && all (single w) (before (start w) w)))

-- document 01's case 4, with p for the largest symbol below x
unfoldable pub case4 : ℕ → List ℕ → ℕ → Bool
unfolding num all single before start
case4 x b p =
    let w = x ∷ b in
    ltb 1 x && (eqb (num w x) 1 && (not (eqb p 1) && all (λ v. not (eqb v p) && single w v) (before (start (p ∷ b)) w)))

-- document 01's rule 1 (002, Algorithm 1): the first case that applies
unfoldable pub rule1 : List ℕ → ℕ
unfolding is_plain num largest_below case3 case4
rule1 [] = 0
rule1 (x ∷ b) =
    let w = x ∷ b in
    let p = largest_below w x in
    cond (is_plain w && eqb x (suc (num w 1))) 1 (
    cond (is_plain w && eqb x 1) (num w 1) (
    cond (case3 x b) (x + num w x - 1) (
    cond (case4 x b p) p x)))

-- document 01's R: height windows that are their own greatest rotation, without the all-zero window
unfoldable pub in_r : List ℕ → Bool
unfolding is_height is_greatest all
in_r w = is_height w && (is_greatest w w && not (all (eqb 0) w))

-- document 01's "w−1 is in R", for the window x b: none where x is 0
unfoldable pub in_r⁻ : ℕ → List ℕ → Bool
unfolding in_r
in_r⁻ zero b = false
in_r⁻ (suc x) b = in_r (x ∷ b)

-- document 01's rule 2 (002, section 4, g)
unfoldable pub rule2 : List ℕ → ℕ
unfolding in_r in_r⁻
rule2 [] = 0
rule2 (x ∷ b) =
    cond (in_r (suc x ∷ b)) (suc x) (
    cond (in_r (x ∷ b) && in_r⁻ x b) (x - 2) (
    cond (in_r (x ∷ b)) (x - 1) x))

-- document 01's rule 3 (002, section 4, g')
unfoldable pub rule3 : List ℕ → ℕ
unfolding in_r
rule3 [] = 0
rule3 (x ∷ b) =
    cond (in_r (x ∷ b)) (x - 1) (
    cond (in_r (suc x ∷ b) && in_r (suc (suc x) ∷ b)) (suc (suc x)) (
    cond (in_r (suc x ∷ b)) (suc x) x))

-- the rule with a number
unfoldable pub rule_of : ℕ → List ℕ → ℕ
unfolding rule1 rule2 rule3
rule_of r w = cond (eqb r 1) (rule1 w) (cond (eqb r 2) (rule2 w) (rule3 w))

-- "the rule's form" of document 01: ranks for rule 1, heights for rules 2 and 3
unfoldable pub in_form : ℕ → List ℕ → Bool
unfolding is_rank is_height
in_form r w = cond (eqb r 1) (is_rank w) (is_height w)

-- w is a weak order of n in the form of the rule r
abbrev pub WeakOrder : ℕ → ℕ → List ℕ → Type 0
WeakOrder n r w = (length w ≡ n) × (in_form r w ≡ true)

-- document 01's rules are 1, 2 and 3
unfoldable pub is_rule : ℕ → Bool
is_rule r = leb 1 r && leb r 3

-- document 01's "one step": the oldest symbol is dropped and the rule's appended
unfoldable pub step : (List ℕ → ℕ) → List ℕ → List ℕ
unfolding shifted
step rule w = shifted w (rule w)
