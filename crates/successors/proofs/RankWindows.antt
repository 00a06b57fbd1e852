-- A window in rank form beside its table of counts. Assumes nothing.
use mathlib.Core.Bool.{Bool, true, false, cond, ◌&&◌}
use mathlib.Core.List.{List, ◌∷◌}
use mathlib.Core.Logic.{◌≢◌}
use mathlib.Core.Path.{◌≡◌, refl, sym, ap, ◌∙◌}
use Prim.Native.Nat.{ℕ, ◌+◌, ◌-◌, ◌≤◌, ◌<◌}
use native.Mathlib.Omega.{arith}
use lib.Dec.{eqb}
use lib.ListN.{length, take, drop, get_or, set}
use Rattle.std.specs.List.{list_all, slice_range}
use Rattle.std.proofs.lemmas.List.{get_or_default}
use Rattle.std.proofs.lemmas.List.Edits.{get_or-between, length-between}
use Rattle.weak_orders.specs.Window.{all, num, is_rank}
use Rattle.weak_orders.proofs.Chains.{list_all-all}
use Rattle.weak_orders.proofs.FormTests.{rank_low}
use Rattle.weak_orders.proofs.Lists.{all_in}
use Rattle.weak_orders.proofs.Parts.{at_part}
use Rattle.weak_orders.proofs.RankForm.{says_rank, rank_one}
use Rattle.weak_orders.proofs.Symbols.{num_le_length, num_mem}
use Rattle.weak_orders.proofs.Tests.{here, not_true→false, false→not_true}
use Rattle.rotations.specs.Rotation.{start, least_rotation}
use Rattle.successors.specs.ByTable.{passes_by, scan_by, largest_by, Low, RepeatBeforeOne}
use Rattle.successors.specs.Rules.{is_plain, largest_below, case3, case4, rule1, single, before}
use Rattle.successors.specs.declared.rank_rule.RankWindow.{RankWindow}
use Rattle.successors.proofs.Chains.{slice_behind}
use Rattle.successors.proofs.Rule1Cases.{plain_scan, rule1_chain, scan_case, not_zero, case3_clear, case4_clear, case3_plain, case3_low, case3_once, case4_low, case4_many, case4_one}
use Rattle.successors.proofs.Singles.{under_fall, rank_fall, largest_above}
use Rattle.successors.proofs.Tables.{table-num, largest_by_largest}
use Rattle.successors.proofs.Windows.{InArray, size, parts, first_in, with_first, one_behind, before_array}

-- no symbol of a part is larger than 16 where none of the window is
pub part_low : (w : List ℕ) (n a b : ℕ) → ((k : ℕ) → k < n → get_or w k 0 ≤ 16) → b ≤ n → n ≤ length w →
    (k d : ℕ) → k < length (slice_range w a b) → get_or (slice_range w a b) k d ≤ 16
part_low w n a b low bn nw k d lt =
    let in_part : a + k < b = omega (arith, length-between w a b (omega arith)) in
    rw (get_or-between w a b k d in_part, get_or_default w (a + k) d 0 (omega arith)) (low (a + k) (omega arith))

-- a symbol behind the first that fails a test, before any 1
pub repeat_seen : (f : ℕ → Bool) (w : List ℕ) (n i : ℕ) → n ≤ length w → i < length (slice_range w 1 n) →
    ((k : ℕ) → k < i → get_or (slice_range w 1 n) k 0 ≢ 1) → get_or (slice_range w 1 n) i 0 ≢ 1 → f (get_or (slice_range w 1 n) i 0) ≡ false →
    RepeatBeforeOne f n w
repeat_seen f w n i nw lt none other fails k pos kn one =
    let long : length (slice_range w 1 n) ≡ n - 1 = length-between w 1 n nw in
    let here : get_or (slice_range w 1 n) i 0 ≡ get_or w (1 + i) 0 = get_or-between w 1 n i 0 (omega arith) in
    let there : get_or (slice_range w 1 n) (k - 1) 0 ≡ get_or w k 0 =
    let e : 1 + (k - 1) ≡ k = omega arith in get_or-between w 1 n (k - 1) 0 (omega arith) ∙ ap (λ (j : ℕ). get_or w j 0) e in
    let apart : k - 1 ≢ i = λ e. other (rw e at (there ∙ one)) in
    let later : ¬ (k - 1 < i) = λ l. none (k - 1) l (there ∙ one) in
    not_true→false _ (λ t. false→not_true _ (rw here at fails) (all_in f t (at_part w 1 k (omega arith) (1 + i) (omega arith) (omega (arith, apart, later)))))

abbrev pub symbols : RankWindow → List ℕ
symbols r = take r.n r.w

abbrev pub head : RankWindow → ℕ
head r = get_or r.w 0 0

abbrev pub tail : RankWindow → List ℕ
tail r = drop 1 (symbols r)

module _ (r : RankWindow) (long : length r.w ≡ 16) where
  array : InArray r.w r.n
  array = record { long = long; some = r.some; most = r.most }

  pub window : symbols r ≡ head r ∷ tail r
  window = parts array

  pub low : Low (symbols r)
  low = rank_low r.w r.n long r.most r.form

  pub head_low : head r ≤ 16
  head_low = low (head r) (first_in array)

  -- the table has how often a symbol occurs, which is at most n
  pub often : (v : ℕ) → v ≤ 16 → get_or r.t v 0 ≡ num (symbols r) v
  often v le = table-num r.t (symbols r) r.counted v le

  pub often_le : (v : ℕ) → v ≤ 16 → get_or r.t v 0 ≤ 16
  often_le v le = omega (arith, often v le, num_le_length (symbols r) v, size array)

  -- the scan of the whole window
  pub plain : list_all (passes_by r.t 0) (slice_range r.w 0 r.n) ≡ is_plain (symbols r)
  plain =
      let e : r.n - 0 ≡ r.n = omega arith in
      rw e (list_all-all (passes_by r.t 0) (symbols r) ∙ plain_scan r.w r.t r.n low r.counted r.form)

  -- and the one up to `start`, with x first
  module _ (x : ℕ) (big : 1 < x) (rank : is_rank (x ∷ tail r) ≡ true) where
    pub one : let k = start (x ∷ tail r) - 1 in (0 < k) × (k < r.n) × (get_or r.w k 0 ≡ 1)
    one = one_behind array x big ((says_rank (x ∷ tail r)).to rank)

    pub starts : (least_rotation (take r.n (set r.w 0 x))).start ≡ start (x ∷ tail r)
    unfolding least_rotation
    starts = ap start (with_first array x)

    pub starts_behind : 2 ≤ (least_rotation (take r.n (set r.w 0 x))).start
    starts_behind = omega (arith, starts, one.0)

    scanned : (p : ℕ) → all (passes_by r.t p) (drop 1 (take (start (x ∷ tail r) - 1) r.w)) ≡ scan_by (start (x ∷ tail r)) r.t (symbols r) p
    unfolding scan_by
    scanned p = sym (ap (all (passes_by r.t p)) (before_array r.w r.n (start (x ∷ tail r)) (omega (arith, one.1))))

    pub repeat_fails : (p : ℕ) → RepeatBeforeOne (passes_by r.t p) r.n r.w → false ≡ scan_by (start (x ∷ tail r)) r.t (symbols r) p
    repeat_fails p h = sym (h (start (x ∷ tail r) - 1) one.0 one.1 one.2) ∙ scanned p

    pub scanned_part : (p : ℕ) →
        list_all (passes_by r.t p) (slice_range r.w 1 (start (x ∷ tail r) - 1)) ≡ scan_by (start (x ∷ tail r)) r.t (symbols r) p
    scanned_part p =
        let k = start (x ∷ tail r) - 1 in
        rw (slice_behind r.w k (omega (arith, one.0))) (list_all-all (passes_by r.t p) (drop 1 (take k r.w)) ∙ scanned p)

  -- where the first symbol occurs once and p, the largest below it, is not 1, the window with p first is in rank form too
  fallen : (p : ℕ) → p ≡ largest_below (symbols r) (head r) → 1 < head r → get_or r.t (head r) 0 ≡ 1 → p ≢ 1 →
      (1 < p) × (is_rank (p ∷ tail r) ≡ true)
  fallen p e big one_there ne =
      let once = sym (often (head r) head_low) ∙ one_there in
      let x = head r in
      let b = tail r in
      let rank = (says_rank (x ∷ b)).to (rw window at r.form) in
      let is = rw window at e in
      let under = under_fall x b rank big (rw window at once) in
      let low = largest_above (x ∷ b) x 1 (rank_one (x ∷ b) rank x here) big in
      (omega (arith, ne), (says_rank (p ∷ b)).of (rw is (rank_fall b _ x under rank)))

  pub fallen_big : (p : ℕ) → p ≡ largest_below (symbols r) (head r) → 1 < head r → get_or r.t (head r) 0 ≡ 1 → p ≢ 1 → 1 < p
  fallen_big p e big once ne = (fallen p e big once ne).0

  pub fallen_rank : (p : ℕ) → p ≡ largest_below (symbols r) (head r) → 1 < head r → get_or r.t (head r) 0 ≡ 1 → p ≢ 1 → is_rank (p ∷ tail r) ≡ true
  fallen_rank p e big once ne = (fallen p e big once ne).1

  -- cases 3 and 4, where all but their scan holds
  pub case3_scan : is_plain (symbols r) ≡ false → 1 < head r → 1 < get_or r.t (head r) 0 →
      scan_by (start (head r ∷ tail r)) r.t (symbols r) 0 ≡ case3 (head r) (tail r)
  case3_scan not_plain big many =
      scan_case r.w r.t r.n low r.counted 0 (single (symbols r)) (not_zero (symbols r) r.form) (start (head r ∷ tail r))
      ∙ ap (λ u. all (single (symbols r)) (before (start u) (symbols r))) (sym window)
      ∙ case3_clear (symbols r) (head r) (tail r) window not_plain big (omega (arith, often (head r) head_low))

  pub case4_scan : (p : ℕ) → 1 < head r → get_or r.t (head r) 0 ≡ 1 → p ≢ 1 →
      scan_by (start (p ∷ tail r)) r.t (symbols r) p ≡ case4 (head r) (tail r) p
  case4_scan p big once ne =
      scan_case r.w r.t r.n low r.counted p _ (λ v m. refl) (start (p ∷ tail r))
      ∙ case4_clear (symbols r) (head r) (tail r) window p big (sym (often (head r) head_low) ∙ once) ne

  -- the rule as the code goes through it
  pub chain : (scan : Bool) → scan ≡ list_all (passes_by r.t 0) (slice_range r.w 0 r.n) → (p : ℕ) → p ≡ largest_below (symbols r) (head r) →
      let ones = get_or r.t 1 0 in
      rule1 (symbols r) ≡ cond (scan && eqb (head r) (ones + 1)) 1 (
      cond (scan && eqb (head r) 1) ones (
      cond (case3 (head r) (tail r)) (head r + get_or r.t (head r) 0 - 1) (
      cond (case4 (head r) (tail r) p) p (head r))))
  chain scan is p e =
      rw (often (head r) head_low)
      (rule1_chain (symbols r) (head r) (tail r) window (get_or r.t 1 0) p scan (is ∙ plain) (often 1 (omega arith)) e)

  pub is_largest : (p : ℕ) → p ≡ largest_by r.t (head r) → p ≡ largest_below (symbols r) (head r)
  is_largest p e = e ∙ largest_by_largest r.t (symbols r) r.counted (head r) (omega (arith, head_low))

  pub head_counted : 0 < get_or r.t (head r) 0
  head_counted = omega (arith, often (head r) head_low, (num_mem (symbols r) (head r)).1 (first_in array))

pub ruleset case3_rules = (window, head_low, case3_scan, case3_plain, case3_low, case3_once, often)

pub ruleset case4_rules = (window, head_low, case4_scan, case4_low, case4_many, case4_one, often, fallen_big, fallen_rank)

pub ruleset rule1_rules = (head_low, often_le, plain, chain, is_largest, head_counted)

pub ruleset start_rules = (one, starts, starts_behind, repeat_fails, scanned_part)
