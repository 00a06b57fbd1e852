-- The rotations of a window: what a rotation keeps, and the least and the greatest of them. All rotations of one window are its rotation
-- class; the papers call it a ring. Assumes nothing.
use mathlib.Core.Bool.{Bool, true}
use mathlib.Core.List.Memᴰ
use mathlib.Core.List.{List, [], ◌∷◌, ◌++◌, append_assoc, append-nil, head-eq_of_cons-eq}
use mathlib.Core.List.{tail-eq_of_cons-eq}
use mathlib.Core.Logic.{◌↔◌}
use mathlib.Core.Path.{◌≡◌, refl, sym, ap, ◌∙◌}
use Prim.Native.Nat.{ℕ, zero, suc, ◌+◌, ◌-◌, ◌≤◌, ◌<◌}
use native.Mathlib.Omega.{arith}
use lib.ListN.{length, take, drop, get_or, length-append, take-append-drop, drop_of_length-le, length-map, get_or-map}
use lib.Seq.{take-suc, drop-cons, take-length, drop-length, take-append_seam, drop-append_seam}
use Rattle.weak_orders.specs.Says.{Says}
use Rattle.weak_orders.specs.Window.{all, count, first_index, range, iter, num, below}
use Rattle.weak_orders.proofs.Iterates.{◌⇝⟨◌⟩◌, iter_add, along, stay, on, ◌⨟◌, first_step, back}
use Rattle.weak_orders.proofs.Lists.{count_append, first_index_lem, in_range, length-range, get_or_range, total, total_append}
use Rattle.weak_orders.proofs.Symbols.{num_mem}
use Rattle.weak_orders.proofs.Tests.{◌∈◌, there, nowhere, split_mem, says_as, says_itself, says_all}
use Rattle.rotations.specs.Order.{lex_le}
use Rattle.rotations.specs.Rotation.{rotation, turned_back, rotations, is_least, is_greatest, start, start_greatest}
use Rattle.rotations.proofs.Orders.{TotalOrder, lex_ge, upward, downward, least_member}

-- Rotation by one.
unfoldable pub turn : List ℕ → List ℕ
unfolding rotation
turn w = rotation w 1

infix 4 ◌⟳◌
-- `v` is a rotation of `w`.
abbrev pub ◌⟳◌ : List ℕ → List ℕ → Type 0
w ⟳ v = w ⇝⟨ turn ⟩ v

pub turned : {w : List ℕ} → w ⟳ turn w
turned = on (stay refl)

-- The two parts of a window change places by turning.
pub swing : (p q : List ℕ) → p ++ q ⟳ q ++ p
unfolding turn
swing [] q = stay (sym (append-nil q))
swing (x ∷ p) q =
    let h : (p ++ q) ++ (x ∷ []) ⟳ q ++ (x ∷ p) = rw append_assoc (rw (append_assoc q (x ∷ []) p) at (swing p (q ++ (x ∷ [])))) in
    first_step h

pub round : (w : List ℕ) → turn w ⟳ w
unfolding turn
round [] = stay refl
round (x ∷ b) = swing b (x ∷ [])

pub ⟳-sym : {w v : List ℕ} → w ⟳ v → v ⟳ w
⟳-sym {w} c = back (round w) c

-- And every rotation comes about so.
pub data Split (w v : List ℕ) : Type 0 where
  parts : (p : List ℕ) (y : ℕ) (q : List ℕ) → w ≡ p ++ (y ∷ q) → v ≡ (y ∷ q) ++ p → Split w v

split_turn : (x : ℕ) (b v : List ℕ) → Split (x ∷ b) v → Split (x ∷ b) (turn v)
unfolding turn
split_turn x b v (parts p y [] e e') = parts [] x b refl (rw e' (rw append-nil (sym e)))
split_turn x b v (parts p y (z ∷ q) e e') = parts (p ++ (y ∷ [])) z q (rw append_assoc e) (rw e' (append_assoc (z ∷ q) p (y ∷ [])))

pub split : (x : ℕ) (b : List ℕ) {v : List ℕ} → x ∷ b ⟳ v → Split (x ∷ b) v
split x b c = along (Split (x ∷ b)) (split_turn x b) c (parts [] x b refl (sym (append-nil (x ∷ b))))

-- A rotation that begins with a symbol of which there is but one.
pub front_once : (x : ℕ) (b d : List ℕ) → ¬ (x ∈ b) → x ∷ b ⟳ x ∷ d → x ∷ d ≡ x ∷ b
front_once x b d once c = at (split x b c)
  where
    at : Split (x ∷ b) (x ∷ d) → x ∷ d ≡ x ∷ b
    at (parts [] y q e e') = e' ∙ append-nil (y ∷ q) ∙ sym e
    at (parts (z ∷ p) y q e e') =
        absurd (once (rw (tail-eq_of_cons-eq e) (Memᴰ.append_right p (Memᴰ.head (head-eq_of_cons-eq e')))))

-- What does not change when the two parts of a window change places is the same for the whole rotation class.
pub rotation_keeps : {B : Type 0} (f : List ℕ → B) → ((p q : List ℕ) → f (p ++ q) ≡ f (q ++ p)) → {w v : List ℕ} → w ⟳ v → f v ≡ f w
unfolding turn
rotation_keeps f h {w} c = along (λ v. f v ≡ f w) (λ v e. turned v ∙ e) c refl
  where
    turned : (v : List ℕ) → f (turn v) ≡ f v
    turned [] = refl
    turned (x ∷ b) = h b (x ∷ [])

pub length_rotated : {w v : List ℕ} → w ⟳ v → length v ≡ length w
length_rotated = rotation_keeps length (λ p q. omega (arith, length-append p q, length-append q p))

pub count_rotated : (f : ℕ → Bool) {w v : List ℕ} → w ⟳ v → count f v ≡ count f w
count_rotated f = rotation_keeps (count f) (λ p q. omega (arith, count_append f p q, count_append f q p))

pub num_rotated : {w v : List ℕ} → w ⟳ v → (x : ℕ) → num v x ≡ num w x
unfolding num
num_rotated c x = count_rotated _ c

pub below_rotated : {w v : List ℕ} → w ⟳ v → (x : ℕ) → below v x ≡ below w x
unfolding below
below_rotated c x = count_rotated _ c

pub total_rotated : (f : ℕ → ℕ) {w v : List ℕ} → w ⟳ v → total f v ≡ total f w
total_rotated f = rotation_keeps (total f) (λ p q. omega (arith, total_append f p q, total_append f q p))

pub mem_rotated : {w v : List ℕ} → w ⟳ v → (x : ℕ) → x ∈ v → x ∈ w
mem_rotated {w} {v} c x m = (num_mem w x).0 (omega (arith, num_rotated c x, (num_mem v x).1 m))

-- Each symbol comes first in some rotation.
pub to_front : (w : List ℕ) (y : ℕ) → y ∈ w → (b : List ℕ) × (w ⟳ y ∷ b)
to_front w y m = let (p, q, e) = cut w y m in (q ++ p, stay e ⨟ swing p (y ∷ q))
  where
    cut : (w : List ℕ) (y : ℕ) → y ∈ w → (p : List ℕ) × (q : List ℕ) × (w ≡ p ++ (y ∷ q))
    cut [] y m = nowhere m
    cut (x ∷ b) y m = split_mem
        (λ e. ([], b, ap (λ z. z ∷ b) (sym e)))
        (λ m'. let (p, q, e) = cut b y m' in (x ∷ p, q, ap (λ l. x ∷ l) e))
        m

-- The rotations that the definitions list are the rotation class.
pub turned_rotation : (w : List ℕ) (i : ℕ) → w ⟳ rotation w i
unfolding rotation
turned_rotation w i = stay (sym (take-append-drop i w)) ⨟ swing (take i w) (drop i w)

pub rotation_split : (p q : List ℕ) → rotation (p ++ q) (length p) ≡ q ++ p
unfolding rotation
rotation_split p q = rw (drop-append_seam, take-append_seam)

pub index_of : (x : ℕ) (b : List ℕ) {v : List ℕ} → x ∷ b ⟳ v → (j : ℕ) × (j < length (x ∷ b)) × (rotation (x ∷ b) j ≡ v)
index_of x b {v} c = of (split x b c)
  where
    of : Split (x ∷ b) v → (j : ℕ) × (j < length (x ∷ b)) × (rotation (x ∷ b) j ≡ v)
    of (parts p y q e e') = (
      length p,
      omega (arith, ap length e, length-append p (y ∷ q)),
      ap (λ l. rotation l (length p)) e ∙ rotation_split p (y ∷ q) ∙ sym e',
    )

pub mem_rotations : (x : ℕ) (b v : List ℕ) → (v ∈ rotations (x ∷ b)) ↔ (x ∷ b ⟳ v)
unfolding rotations
mem_rotations x b v = (
  λ m. let (i, _, e) = Memᴰ.of_map (rotation (x ∷ b)) (range (length (x ∷ b))) m in turned_rotation (x ∷ b) i ⨟ stay e,
  λ c. let (j, lt, e) = index_of x b c in Memᴰ.cast (sym e) (Memᴰ.map (rotation (x ∷ b)) (in_range (length (x ∷ b)) j lt)),
)

-- So what all of them are tested for is true of the class.
says_rotations : {p : List ℕ → Bool} {A : List ℕ → Type 0} → ((v : List ℕ) → Says (p v) (A v)) →
    (x : ℕ) (b : List ℕ) → Says (all p (rotations (x ∷ b))) ((v : List ℕ) → x ∷ b ⟳ v → A v)
says_rotations s x b = says_as (says_all s (rotations (x ∷ b))) (λ h v c. h v ((mem_rotations x b v).1 c)) (λ h v m. h v ((mem_rotations x b v).0 m))

pub says_least : (x : ℕ) (b u : List ℕ) → Says (is_least (x ∷ b) u) ((v : List ℕ) → x ∷ b ⟳ v → lex_le u v ≡ true)
unfolding is_least
says_least x b u = says_rotations (λ v. says_itself (lex_le u v)) x b

pub says_greatest : (x : ℕ) (b u : List ℕ) → Says (is_greatest (x ∷ b) u) ((v : List ℕ) → x ∷ b ⟳ v → lex_le v u ≡ true)
unfolding is_greatest
says_greatest x b u = says_rotations (λ v. says_itself (lex_le v u)) x b

length-rotations : (w : List ℕ) → length (rotations w) ≡ length w
unfolding rotations
length-rotations w = length-map (range (length w)) (rotation w) ∙ length-range (length w)

get_or_rotations : (w : List ℕ) (j : ℕ) → j < length w → get_or (rotations w) j (rotation w 0) ≡ rotation w j
unfolding rotations
get_or_rotations w j lt = get_or-map (rotation w) (range (length w)) j 0 ∙ ap (rotation w) (get_or_range (length w) j lt)

-- The rotation of w from i comes first in an order, and i is the least index of it.
pub record StartBy (le : List ℕ → List ℕ → Bool) (w : List ℕ) (i : ℕ) : Type 0 where
  pub inside : i < length w
  pub lowest : (v : List ℕ) → w ⟳ v → le (rotation w i) v ≡ true
  pub first : (j : ℕ) → j < length w → ((v : List ℕ) → w ⟳ v → le (rotation w j) v ≡ true) → i ≤ j

-- There is but one such index.
pub start_unique : {le : List ℕ → List ℕ → Bool} (w : List ℕ) (i j : ℕ) → StartBy le w i → StartBy le w j → i ≡ j
start_unique w i j S T = omega (arith, S.first j T.inside T.lowest, T.first i S.inside S.lowest)

module _ {le : List ℕ → List ℕ → Bool} (order : TotalOrder le) (x : ℕ) (b : List ℕ) where
  -- Each rotation class has a rotation that comes first.
  pub extreme : (m : List ℕ) × (x ∷ b ⟳ m) × ((v : List ℕ) → x ∷ b ⟳ v → le m v ≡ true)
  extreme =
      let (m, h, low) = least_member (λ u v. (le u v ≡ true)) order.total order.transitive (x ∷ b) (rotations (x ∷ b)) in
      (m, split_mem (λ e. stay (sym e)) (mem_rotations x b m).0 h, λ v c. low v (there ((mem_rotations x b v).1 c)))

  pub start_by : StartBy le (x ∷ b) (first_index (λ u. all (le u) (rotations (x ∷ b))) (rotations (x ∷ b)))
  start_by =
      let w = x ∷ b in
      let i = first_index (λ u. all (le u) (rotations w)) (rotations w) in
      let says : (u : List ℕ) → Says (all (le u) (rotations w)) ((v : List ℕ) → w ⟳ v → le u v ≡ true) =
      λ u. says_rotations (λ v. says_itself (le u v)) x b in
      let index : (j : ℕ) → j < length w → all (le (rotation w j)) (rotations w) ≡ true →
      (i ≤ j) × (all (le (get_or (rotations w) i (rotation w 0))) (rotations w) ≡ true) =
      λ j lt t. first_index_lem (λ u. all (le u) (rotations w)) (rotations w) (rotation w 0) j (rw (length-rotations w) lt) (rw (get_or_rotations w j lt) t) in
      let (m, c, low) = extreme in
      let (j, lt, e) = index_of x b c in
      let (le', t) = index j lt ((says (rotation w j)).of (rw e low)) in
      let inside : i < length w = omega arith in
      record {
        inside = inside;
        lowest = (says (rotation w i)).to (rw (get_or_rotations w i inside) at t);
        first = λ j lt low. (index j lt ((says (rotation w j)).of low)).0;
      }

-- In the two directions of dictionary order: the least and the greatest rotation, `start` and `start_greatest`.
pub least : (x : ℕ) (b : List ℕ) → (m : List ℕ) × (x ∷ b ⟳ m) × ((v : List ℕ) → x ∷ b ⟳ v → lex_le m v ≡ true)
least = extreme upward

pub greatest : (x : ℕ) (b : List ℕ) → (m : List ℕ) × (x ∷ b ⟳ m) × ((v : List ℕ) → x ∷ b ⟳ v → lex_le v m ≡ true)
greatest = extreme downward

abbrev pub Start : List ℕ → ℕ → Type 0
Start = StartBy lex_le

pub start_first : (x : ℕ) (b : List ℕ) → (i : ℕ) × (start (x ∷ b) ≡ suc i) × Start (x ∷ b) i
unfolding start is_least
start_first x b = (_, refl, start_by upward x b)

pub greatest_first : (x : ℕ) (b : List ℕ) → (i : ℕ) × (start_greatest (x ∷ b) ≡ suc i) × StartBy lex_ge (x ∷ b) i
unfolding start_greatest is_greatest
greatest_first x b = (_, refl, start_by downward x b)

-- Turning again and again gives the rotations, and in the end the window.
pub iter_turn : (i : ℕ) (w : List ℕ) → i ≤ length w → iter turn i w ≡ rotation w i
unfolding iter turn rotation
iter_turn zero w le = sym (append-nil w)
iter_turn (suc i) w le = rw (iter_turn i w (omega arith)) (rw (drop-cons w i 0, take-suc w i 0) (append_assoc (drop (suc i) w) (take i w) _))

rotation-length : (w : List ℕ) → rotation w (length w) ≡ w
unfolding rotation
rotation-length w = rw (drop-length, take-length)

pub full_turn : (w : List ℕ) → iter turn (length w) w ≡ w
full_turn w = iter_turn (length w) w (omega arith) ∙ rotation-length w

pub rotation-rotation : (w : List ℕ) (i j : ℕ) → j + i ≤ length w → rotation (rotation w i) j ≡ rotation w (j + i)
rotation-rotation w i j le =
    let e : iter turn i w ≡ rotation w i = iter_turn i w (omega arith) in
    sym (iter_turn j (rotation w i) (omega (arith, length_rotated (turned_rotation w i)))) ∙
    rw (← e) (sym (iter_add turn j i w)) ∙ iter_turn (j + i) w le

-- A turn and a turn back undo each other.
pub turn_back : (w : List ℕ) → turn (turned_back w) ≡ w
unfolding turn turned_back rotation
turn_back [] = refl
turn_back (x ∷ b) =
    let e : 1 + (length (x ∷ b) - 1) ≡ length (x ∷ b) = omega arith in
    rotation-rotation (x ∷ b) (length (x ∷ b) - 1) 1 (omega arith) ∙ ap (rotation (x ∷ b)) e ∙ rotation-length (x ∷ b)

pub back_turn : (w : List ℕ) → turned_back (turn w) ≡ w
unfolding turn turned_back rotation
back_turn [] = refl
back_turn (x ∷ b) =
    let l = length_rotated (turned_rotation (x ∷ b) 1) in
    let e : length (rotation (x ∷ b) 1) - 1 + 1 ≡ length (x ∷ b) = omega arith in
    rotation-rotation (x ∷ b) 1 (length (rotation (x ∷ b) 1) - 1) (omega arith) ∙ ap (rotation (x ∷ b)) e ∙ rotation-length (x ∷ b)

-- A window turned back is a rotation of it: its newest symbol, and the others behind.
pub turned_back_lem : (w : List ℕ) → w ⟳ turned_back w
unfolding turned_back
turned_back_lem w = turned_rotation w (length w - 1)

pub newest_front : (w : List ℕ) → 0 < length w → turned_back w ≡ get_or w (length w - 1) 0 ∷ take (length w - 1) w
unfolding turned_back rotation
newest_front w lt =
    let i = length w - 1 in
    let past : length w ≤ suc i = omega arith in
    ap (λ l. l ++ take i w) (drop-cons w i 0 (omega arith) ∙ ap (λ l. get_or w i 0 ∷ l) (drop_of_length-le w past))
