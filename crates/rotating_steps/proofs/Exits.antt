-- Under rule 1 the weak orders that a step does not rotate are twice as many as the exits: the rule exchanges each exit with another window. And the
-- exits are as many as the necklaces but one: the rotation class of the ones has no exit, and every other has one. Assumes nothing.
use mathlib.Core.Bool.{Bool, true, false, not, ◌&&◌}
use mathlib.Core.List.{List, [], ◌∷◌, map}
use mathlib.Core.Logic.{⊎_elim, ◌≢◌}
use mathlib.Core.Path.{◌≡◌, refl, sym, ap, ◌∙◌}
use Prim.Native.Nat.{ℕ, suc, ◌+◌, ◌<◌}
use native.Mathlib.Omega.{arith}
use lib.ListN.{length, replicate}
use Rattle.weak_orders.specs.Says.{Says}
use Rattle.weak_orders.specs.Window.{count, ranks}
use Rattle.weak_orders.proofs.Iterates.{stay, ◌⨟◌}
use Rattle.weak_orders.proofs.Lists.{mem_replicate, all_same}
use Rattle.weak_orders.proofs.RankForm.{Rank, says_rank}
use Rattle.weak_orders.proofs.Tests.{not_true→false, says_itself, says_no, says_and, says_not}
use Rattle.rotations.specs.Order.{same}
use Rattle.rotations.proofs.Forms.{rank_rotated}
use Rattle.rotations.proofs.Orders.{says_same}
use Rattle.rotations.proofs.Rotations.{turn, ◌⟳◌, ⟳-sym, length_rotated, mem_rotated}
use Rattle.ranking.specs.Dictionary.{height_windows}
use Rattle.ranking.specs.Numbering.{Exactly, RankWindow}
use Rattle.ranking.proofs.Numberings.{exactly_as}
use Rattle.ranking.proofs.Selected.{ranks_selected}
use Rattle.successors.specs.Rules.{rule1, rule_of}
use Rattle.successors.proofs.FirstSymbol.{change}
use Rattle.successors.proofs.Rule1.{exit1, Exit1, weight, Partner, exit_partner, other_partner, rule1_undoes_rule1}
use Rattle.universal_cycle.proofs.Joined.{Leads, first, next, Joined}
use Rattle.universal_cycle.proofs.RotationClasses1.{depth1, joined1}
use Rattle.rotating_steps.specs.Kinds.{weak_orders, rotates, other, necklace_of, is_necklace, necklaces}
use Rattle.rotating_steps.proofs.Counting.{Into, as_many, same_number, exactly_one, count_split}
use Rattle.rotating_steps.proofs.Necklaces.{one_necklace, necklace_rotated, necklace_is, necklace_rank}
use Rattle.rotating_steps.proofs.Selected.{says_rotates}

says_stays : (x : ℕ) (b : List ℕ) → Says (rotates 1 (x ∷ b)) (rule1 (x ∷ b) ≡ x)
unfolding rule_of
says_stays = says_rotates 1

module _ (m : ℕ) where
  abbrev n : ℕ
  n = suc m

  abbrev In : List ℕ → Type 0
  In = RankWindow n

  -- How many weak orders of n pass a test.
  abbrev counted : (List ℕ → Bool) → ℕ
  counted q = count q (map ranks (height_windows n))

  abbrev selected : (q : List ℕ → Bool) → Exactly (counted q) (λ w. In w × (q w ≡ true))
  selected q = ranks_selected q n

  abbrev pub exits : ℕ
  exits = count exit1 (map ranks (height_windows (suc m)))

  rank : (w : List ℕ) → In w → Rank w
  rank w p = (says_rank w).to p.1

  -- ---- an exit and its partner

  module _ {b : List ℕ} {hi lo : ℕ} (q : Partner b hi lo) (long : length b < n) where
    apart : hi ≢ lo
    apart e = omega (arith, q.deeper n long, ap (weight n) e)

    hi_changes : rotates 1 (hi ∷ b) ≡ false
    hi_changes = says_no (says_stays hi b) (λ e. apart (sym e ∙ q.falls))

    lo_changes : rotates 1 (lo ∷ b) ≡ false
    lo_changes = says_no (says_stays lo b) (λ e. apart (sym q.rises ∙ e))

    -- As an exit it would have a partner still less deep; but the rule takes it to `hi`.
    lo_stays_in : exit1 (lo ∷ b) ≡ false
    lo_stays_in = not_true→false (exit1 (lo ∷ b)) (λ t.
        let (lo', q') = exit_partner lo b q.rank_lo t in
        omega (arith, q.deeper n long, q'.deeper n long, ap (weight n) (sym q'.falls ∙ q.rises)))

  -- Not rotated, and an exit or not.
  abbrev leaves : List ℕ → Bool
  leaves w = not (rotates 1 w) && exit1 w

  abbrev enters : List ℕ → Bool
  enters w = not (rotates 1 w) && not (exit1 w)

  every_exit : counted leaves ≡ exits
  every_exit = same_number (exactly_as (selected leaves) (λ w. (λ (p, t). (p, ((tests w).to t).1), λ (p, t). (p, exit w p t)))) (selected exit1)
    where
      tests : (w : List ℕ) → Says (leaves w) ((¬ (rotates 1 w ≡ true)) × Exit1 w)
      tests w = says_and (says_not (says_itself (rotates 1 w))) (says_itself (exit1 w))

      exit : (w : List ℕ) → In w → Exit1 w → leaves w ≡ true
      exit [] p t = absurd (omega (arith, p.0))
      exit (x ∷ b) p t = let (lo, q) = exit_partner x b (rank (x ∷ b) p) t in rw (hi_changes q (omega (arith, p.0)), t)

  -- The rule takes the one to the other and back.
  abbrev Changed : List ℕ → List ℕ → Type 0
  Changed w y = (change rule1 w ≡ y)

  exchanged : counted enters ≡ exits
  unfolding change
  exchanged = as_many (selected enters) (selected exit1) out back
    where
      has_exit : (w : List ℕ) → In w × (enters w ≡ true) → (y : List ℕ) × (In y × Exit1 y) × Changed w y
      has_exit [] (p, t) = absurd (omega (arith, p.0))
      has_exit (x ∷ b) (p, t) =
          let (moves, inner) = (says_and (says_not (says_itself (rotates 1 (x ∷ b)))) (says_not (says_itself (exit1 (x ∷ b))))).to t in
          ⊎_elim
          (λ e. absurd (moves ((says_stays x b).of e)))
          (λ (hi, q). (hi ∷ b, ((p.0, (says_rank (hi ∷ b)).of q.rank_hi), q.exit), ap (λ z. z ∷ b) q.rises))
          (other_partner x b (rank (x ∷ b) p) inner)

      has_entry : (y : List ℕ) → In y × Exit1 y → (w : List ℕ) × (In w × (enters w ≡ true)) × Changed w y
      has_entry [] (p, t) = absurd (omega (arith, p.0))
      has_entry (x ∷ b) (p, t) =
          let (lo, q) = exit_partner x b (rank (x ∷ b) p) t in
          let long : length b < n = omega (arith, p.0) in
          (lo ∷ b, ((p.0, (says_rank (lo ∷ b)).of q.rank_lo), rw (lo_changes q long, lo_stays_in q long)), ap (λ z. z ∷ b) q.rises)

      undone : (w w' y : List ℕ) → In w → In w' → Changed w y → Changed w' y → w ≡ w'
      undone w w' y p p' e e' = sym (rule1_undoes_rule1 w p.1) ∙ ap (change rule1) (e ∙ sym e') ∙ rule1_undoes_rule1 w' p'.1

      out : Into (λ w. In w × (enters w ≡ true)) (λ y. In y × Exit1 y) Changed
      out = record { has = has_exit; own = λ w w' y p p'. undone w w' y p.0 p'.0 }

      back : Into (λ y. In y × Exit1 y) (λ w. In w × (enters w ≡ true)) (λ y w. Changed w y)
      back = record { has = has_entry; own = λ y y' w p p' e e'. sym e ∙ e' }

  pub twice_the_exits : other 1 (suc m) ≡ exits + exits
  unfolding other weak_orders
  twice_the_exits = omega (arith, count_split (λ w. not (rotates 1 w)) exit1 (map ranks (height_windows n)), every_exit, exchanged)

  -- ---- the rotation classes

  abbrev ones : List ℕ
  ones = replicate n 1

  abbrev J : Joined In turn (change rule1) (depth1 n) Exit1 ones
  J = joined1 m

  rotated : {w v : List ℕ} → w ⟳ v → In w → In v
  rotated {w} {v} c p = (length_rotated c ∙ p.0, (says_rank v).of (rank_rotated c (rank w p)))

  ones_alone : (w : List ℕ) → ones ⟳ w → w ≡ ones
  ones_alone w c = all_same 1 w (λ x i. mem_replicate n 1 x (mem_rotated c x i)) ∙ ap (λ k. replicate k 1) (length_rotated c ∙ J.root_in.0)

  -- The necklaces: that of the ones, and the others.
  abbrev first_necklace : List ℕ → Bool
  first_necklace w = is_necklace w && same w ones

  abbrev later_necklace : List ℕ → Bool
  later_necklace w = is_necklace w && not (same w ones)

  ones_necklace : counted first_necklace ≡ 1
  ones_necklace = same_number (exactly_as (selected first_necklace) (λ w. (λ (p, t). ((tests w).to t).1, λ e. rw e (J.root_in, its_own)))) (exactly_one ones)
    where
      tests : (w : List ℕ) → Says (first_necklace w) ((is_necklace w ≡ true) × (w ≡ ones))
      tests w = says_and (says_itself (is_necklace w)) (says_same w ones)

      its_own : first_necklace ones ≡ true
      its_own = (tests ones).of (rw (ones_alone (necklace_of ones) (necklace_rotated ones)) at (necklace_is ones (omega (arith, J.root_in.0))), refl)

  -- A rotation class has one of these just if it has an exit, and it has but one of either.
  other-necklaces : counted later_necklace ≡ exits
  other-necklaces = as_many (selected later_necklace) (selected exit1) out back
    where
      tests : (w : List ℕ) → Says (later_necklace w) ((is_necklace w ≡ true) × (w ≢ ones))
      tests w = says_and (says_itself (is_necklace w)) (says_not (says_same w ones))

      exit_of : {x y : List ℕ} → Leads (change rule1) Exit1 x y → Exit1 y
      exit_of (first e t) = t
      exit_of (next l e t) = t

      has_exit : (w : List ℕ) → In w × (later_necklace w ≡ true) → (y : List ℕ) × (In y × Exit1 y) × (w ⟳ y)
      has_exit w (p, t) = ⊎_elim
          (λ c. absurd (((tests w).to t).1 (ones_alone w c)))
          (λ (x, q, lt, y, l, c). (y, (rotated c p, exit_of l), c))
          (J.up w p)

      has_necklace : (y : List ℕ) → In y × Exit1 y → (w : List ℕ) × (In w × (later_necklace w ≡ true)) × (w ⟳ y)
      has_necklace y (p, t) =
          let c = ⟳-sym (necklace_rotated y) in
          let later = (tests (necklace_of y)).of (necklace_is y (omega (arith, p.0)), λ e. J.no_exit (stay (sym e) ⨟ c) t) in
          (necklace_of y, (necklace_rank n y p, later), c)

      out : Into (λ w. In w × (later_necklace w ≡ true)) (λ y. In y × Exit1 y) (λ w y. w ⟳ y)
      out = record {
        has = has_exit;
        own = λ w w' y (p, t) (p', t') c c'. one_necklace w w' (omega (arith, p.0)) (c ⨟ ⟳-sym c') ((tests w).to t).0 ((tests w').to t').0;
      }

      back : Into (λ y. In y × Exit1 y) (λ w. In w × (later_necklace w ≡ true)) (λ y w. w ⟳ y)
      back = record {
        has = has_necklace;
        own = λ y y' w (p, t) (p', t') c c'. J.one_exit p' t' (⟳-sym c' ⨟ c) t;
      }

  pub exits_and_one : necklaces (suc m) ≡ exits + 1
  unfolding necklaces weak_orders
  exits_and_one = omega (arith, count_split is_necklace (λ w. same w ones) (map ranks (height_windows n)), ones_necklace, other-necklaces)
