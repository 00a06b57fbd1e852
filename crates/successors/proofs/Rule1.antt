-- Rule 1 by its cases: it exchanges an exit and a window less deep, or stays, so it undoes itself. Assumes nothing.
use mathlib.Core.Bool.{Bool, false, cond, ◌&&◌, ◌||◌, true}
use mathlib.Core.List.{List, [], ◌∷◌}
use mathlib.Core.Logic.{◌⊎◌, inl, inr, ⊎_elim, ◌≢◌}
use mathlib.Core.Path.{◌≡◌, refl, sym, ap, ◌∙◌}
use Prim.Native.Nat.{ℕ, zero, suc, ◌+◌, ◌-◌, ◌≤◌, ◌<◌}
use native.Mathlib.Omega.{arith}
use native.Mathlib.Decide.{dec_lt, ℕ_discrete}
use lib.Dec.{eqb}
use lib.ListN.{length, take, drop}
use borrow.Author.Tests.{ne_eqb}
use Rattle.weak_orders.specs.Says.{Says}
use Rattle.weak_orders.specs.Window.{num, is_rank}
use Rattle.weak_orders.proofs.Lists.{mem_take}
use Rattle.weak_orders.proofs.RankForm.{Rank, says_rank, rank_positive, rank_le_length, rank_gap, rank_one}
use Rattle.weak_orders.proofs.Symbols.{num-same, num-other, num_mem}
use Rattle.weak_orders.proofs.Tests.{◌∈◌, here, there, nowhere, split_mem, true?, cond_yes, cond_no, says_as, says_eq, says_lt, says_and}
use Rattle.weak_orders.proofs.Tests.{says_or, says_not}
use Rattle.weak_orders.proofs.Tests.{says_all}
use Rattle.rotations.specs.Rotation.{start}
use Rattle.successors.specs.Rules.{is_plain, largest_below, before, case3, case4, rule1}
use Rattle.successors.proofs.FirstSymbol.{change}
use Rattle.successors.proofs.Singles.{Single, says_single, Plain, says_plain, Under, under_rise, under_fall, under_once, rank_rise}
use Rattle.successors.proofs.Singles.{rank_fall, under_largest}
use Rattle.successors.proofs.Singles.{under_num, tail-num}

-- The four cases of the rule, as tests and as statements.
abbrev test1 : ℕ → List ℕ → Bool
test1 x b = is_plain (x ∷ b) && eqb x (suc (num (x ∷ b) 1))

abbrev test2 : ℕ → List ℕ → Bool
test2 x b = is_plain (x ∷ b) && eqb x 1

abbrev p_of : ℕ → List ℕ → ℕ
p_of x b = largest_below (x ∷ b) x

pub record Case1 (x : ℕ) (b : List ℕ) : Type 0 where
  pub plain : Plain (x ∷ b)
  pub is : x ≡ suc (num (x ∷ b) 1)

pub record Case2 (x : ℕ) (b : List ℕ) : Type 0 where
  pub plain : Plain (x ∷ b)
  pub is : x ≡ 1

pub record Case3 (x : ℕ) (b : List ℕ) : Type 0 where
  pub not_plain : ¬ Plain (x ∷ b)
  pub big : 1 < x
  pub many : 1 < num (x ∷ b) x
  pub clear : (v : ℕ) → v ∈ before (start (x ∷ b)) (x ∷ b) → Single (x ∷ b) v

pub record Case4 (x : ℕ) (b : List ℕ) (p : ℕ) : Type 0 where
  pub big : 1 < x
  pub once : num (x ∷ b) x ≡ 1
  pub not_one : p ≢ 1
  pub clear : (v : ℕ) → v ∈ before (start (p ∷ b)) (x ∷ b) → (v ≢ p) × Single (x ∷ b) v

says_case1 : (x : ℕ) (b : List ℕ) → Says (test1 x b) (Case1 x b)
says_case1 x b = says_as (says_and (says_plain w) (says_eq x (suc (num w 1)))) (λ t. record { plain = t.0; is = t.1 }) (λ c. (c.plain, c.is))
  where
    w : List ℕ
    w = x ∷ b

says_case2 : (x : ℕ) (b : List ℕ) → Says (test2 x b) (Case2 x b)
says_case2 x b = says_as (says_and (says_plain (x ∷ b)) (says_eq x 1)) (λ t. record { plain = t.0; is = t.1 }) (λ c. (c.plain, c.is))

says_case3 : (x : ℕ) (b : List ℕ) → Says (case3 x b) (Case3 x b)
unfolding case3
says_case3 x b = says_as
    (says_and (says_not (says_plain w)) (says_and (says_lt 1 x) (says_and (says_lt 1 (num w x)) (says_all (says_single w) (before (start w) w)))))
    (λ t. record { not_plain = t.0; big = t.1.0; many = t.1.1.0; clear = t.1.1.1 })
    (λ c. (c.not_plain, (c.big, (c.many, c.clear))))
  where
    w : List ℕ
    w = x ∷ b

says_case4 : (x : ℕ) (b : List ℕ) (p : ℕ) → Says (case4 x b p) (Case4 x b p)
unfolding case4
says_case4 x b p = says_as
    (says_and (says_lt 1 x) (says_and (says_eq (num w x) 1) (says_and (says_not (says_eq p 1))
    (says_all (λ v. says_and (says_not (says_eq v p)) (says_single w v)) (before (start (p ∷ b)) w)))))
    (λ t. record { big = t.0; once = t.1.0; not_one = t.1.1.0; clear = t.1.1.1 })
    (λ c. (c.big, (c.once, (c.not_one, c.clear))))
  where
    w : List ℕ
    w = x ∷ b

-- What the rule gives in each case.
module _ (x : ℕ) (b : List ℕ) where
  rule1_1 : Case1 x b → rule1 (x ∷ b) ≡ 1
  unfolding rule1
  rule1_1 c = cond_yes (says_case1 x b) c _ _

  rule1_2 : ¬ Case1 x b → Case2 x b → rule1 (x ∷ b) ≡ num (x ∷ b) 1
  unfolding rule1
  rule1_2 n1 c = cond_no (says_case1 x b) n1 _ _ ∙ cond_yes (says_case2 x b) c _ _

  rule1_3 : ¬ Case1 x b → ¬ Case2 x b → Case3 x b → rule1 (x ∷ b) ≡ x + num (x ∷ b) x - 1
  unfolding rule1
  rule1_3 n1 n2 c = cond_no (says_case1 x b) n1 _ _ ∙ cond_no (says_case2 x b) n2 _ _ ∙ cond_yes (says_case3 x b) c _ _

  rule1_4 : ¬ Case1 x b → ¬ Case2 x b → ¬ Case3 x b → Case4 x b (p_of x b) → rule1 (x ∷ b) ≡ p_of x b
  unfolding rule1
  rule1_4 n1 n2 n3 c =
      cond_no (says_case1 x b) n1 _ _ ∙ cond_no (says_case2 x b) n2 _ _ ∙ cond_no (says_case3 x b) n3 _ _ ∙ cond_yes (says_case4 x b (p_of x b)) c _ _

  rule1_5 : ¬ Case1 x b → ¬ Case2 x b → ¬ Case3 x b → ¬ Case4 x b (p_of x b) → rule1 (x ∷ b) ≡ x
  unfolding rule1
  rule1_5 n1 n2 n3 n4 =
      cond_no (says_case1 x b) n1 _ _ ∙ cond_no (says_case2 x b) n2 _ _ ∙ cond_no (says_case3 x b) n3 _ _ ∙ cond_no (says_case4 x b (p_of x b)) n4 _ _

-- The exits are the windows of cases 1 and 3.
unfoldable pub exit1 : List ℕ → Bool
unfolding case3
exit1 [] = false
exit1 (x ∷ b) = test1 x b || case3 x b

abbrev pub Exit1 : List ℕ → Type 0
Exit1 w = (exit1 w ≡ true)

pub says_exit1 : (x : ℕ) (b : List ℕ) → Says (exit1 (x ∷ b)) (Case1 x b ⊎ Case3 x b)
unfolding exit1
says_exit1 x b = says_or (says_case1 x b) (says_case3 x b)

-- The depth: a symbol weighs nothing if it is 1, and else the more the smaller it is.
unfoldable pub weight : ℕ → ℕ → ℕ
weight n v = cond (eqb v 1) 0 (suc (n - v))

pub weight_one : (n : ℕ) → weight n 1 ≡ 0
unfolding weight
weight_one n = refl

pub weight_other : (n v : ℕ) → v ≢ 1 → weight n v ≡ suc (n - v)
unfolding weight
weight_other n v ne = rw (ne_eqb v 1 ne)

pub weight_le : (n v : ℕ) → weight n v ≤ suc n
weight_le n v = elim (ℕ_discrete v 1) [ yes e ↦ rw (e, weight_one n) (omega arith) | no ne ↦ omega (arith, weight_other n v ne) ]

-- Before one tail, the exit with `hi` and the window with `lo` are exchanged.
pub record Partner (b : List ℕ) (hi lo : ℕ) : Type 0 where
  pub exit : Exit1 (hi ∷ b)
  pub falls : rule1 (hi ∷ b) ≡ lo
  pub rises : rule1 (lo ∷ b) ≡ hi
  pub rank_hi : Rank (hi ∷ b)
  pub rank_lo : Rank (lo ∷ b)
  pub deeper : (n : ℕ) → length b < n → weight n lo < weight n hi

-- Cases 1 and 2: 1 and its next.
module _ (b : List ℕ) (x : ℕ) (u : Under b 1 x) where
  plain_rise : Plain (1 ∷ b) → Plain (x ∷ b)
  plain_rise h v m = split_mem
      (λ e. inr (rw e (under_once b 1 x u)))
      (λ k. elim (ℕ_discrete v 1) [ yes e ↦ inl e | no ne ↦ ⊎_elim inl (λ e. inr (tail-num b 1 x u v k ne ∙ e)) (h v (there k)) ])
      m

  plain_fall : Plain (x ∷ b) → Plain (1 ∷ b)
  plain_fall h v m = elim (ℕ_discrete v 1) [
    | yes e ↦ inl e
    | no ne ↦ split_mem
        (λ e. inl e)
        (λ k. ⊎_elim inl (λ e. inr (sym (tail-num b 1 x u v k ne) ∙ e)) (h v (there k)))
        m
  ]

  partner_ones : Rank (x ∷ b) → Plain (x ∷ b) → Partner b x 1
  partner_ones r h =
      let big : 1 < x = omega arith in
      let c1 : Case1 x b = record { plain = h; is = omega (arith, num-other x b 1 (omega arith)) } in
      record {
        exit = (says_exit1 x b).of (inl c1);
        falls = rule1_1 x b c1;
        rises = rule1_2 1 b (λ c. omega (arith, c.is, num-same 1 b)) (record { plain = plain_fall h; is = refl }) ∙ omega (arith, num-same 1 b);
        rank_hi = r;
        rank_lo = rank_fall b 1 x u r;
        deeper = λ n lt. omega (arith, weight_one n, weight_other n x (omega arith));
      }

-- Cases 3 and 4: another repeated symbol and its next.
before-tail : (t x y : ℕ) (b : List ℕ) → before t (x ∷ b) ≡ before t (y ∷ b)
unfolding before
before-tail t x y b = go (t - 1)
  where
    go : (k : ℕ) → drop 1 (take k (x ∷ b)) ≡ drop 1 (take k (y ∷ b))
    go zero = refl
    go (suc k) = refl

mem_before : (t x : ℕ) (b : List ℕ) (v : ℕ) → v ∈ before t (x ∷ b) → v ∈ b
unfolding before
mem_before t x b v m = go (t - 1) m
  where
    go : (k : ℕ) → v ∈ drop 1 (take k (x ∷ b)) → v ∈ b
    go zero m = nowhere m
    go (suc k) m = mem_take k b v m

module _ (b : List ℕ) (p x : ℕ) (u : Under b p x) where
  partner_repeated : Rank (p ∷ b) → 1 < p → ((v : ℕ) → v ∈ before (start (p ∷ b)) (p ∷ b) → Single (p ∷ b) v) → Partner b p x
  partner_repeated r big clear = record {
    exit = (says_exit1 p b).of (inr c3);
    falls = rule1_3 p b (λ c. mixed c.plain) (λ c. mixed c.plain) c3 ∙ omega (arith, num-same p b);
    rises = rw (under_largest b p x u) at (rule1_4 x b not1
        (λ c. omega (arith, c.is))
        (λ c. omega (arith, c.many, under_once b p x u))
        (rw (under_largest b p x u) c4));
    rank_hi = r;
    rank_lo = rank_rise b p x u r;
    deeper = λ n lt. omega (
      arith,
      weight_other n p (λ e. omega arith),
      weight_other n x (λ e. omega arith),
      rank_le_length (x ∷ b) (rank_rise b p x u r) x here,
    );
  }
    where
      twice : 1 < num (p ∷ b) p
      twice = omega (arith, num-same p b)

      many : (v : ℕ) → Single (p ∷ b) v → v ≢ p
      many v s e = ⊎_elim (λ e'. omega arith) (λ e'. omega (arith, twice, rw e at e')) s

      mixed : ¬ Plain (p ∷ b)
      mixed h = many p (h p here) refl

      c3 : Case3 p b
      c3 = record { not_plain = mixed; big = big; many = twice; clear = clear }

      c4 : Case4 x b p
      c4 = record {
        big = omega arith;
        once = under_once b p x u;
        not_one = λ e. omega arith;
        clear = λ v m.
            let s = clear v (rw (before-tail (start (p ∷ b)) p x b) m) in
            (many v s, ⊎_elim inl (λ e. inr (tail-num b p x u v (mem_before _ x b v m) (many v s) ∙ e)) s);
      }

      not1 : ¬ Case1 x b
      not1 c = omega (
        arith,
        c.is,
        under_num b p x u 1 (λ e. omega arith) (λ e. omega arith),
        rank_gap (p ∷ b) r 1 p (rank_one (p ∷ b) r p here) here big,
      )

-- In case 1 the first symbol is the next of 1.
pub case1_under : (x : ℕ) (b : List ℕ) → Rank (x ∷ b) → Case1 x b → Under b 1 x
case1_under x b r c =
    let one = rank_one (x ∷ b) r x here in
    let ne : 1 ≢ x = λ e. omega (arith, c.is, (num_mem (x ∷ b) 1).1 one) in
    let once : num (x ∷ b) x ≡ 1 = ⊎_elim (λ e. absurd (ne (sym e))) (λ e. e) (c.plain x here) in
    record {
      in_tail = omega (arith, num-other x b 1 ne, (num_mem (x ∷ b) 1).1 one);
      next = omega (arith, num-other x b 1 ne, c.is);
      between = λ v m lt.
          let far : v ≢ x = λ e. omega (arith, num-same x b, rw e at ((num_mem b v).1 m)) in
          omega (arith, c.is, rank_gap (x ∷ b) r 1 v one (there m) lt);
    }

-- So every exit has a partner, and every other window is one, or stays.
pub exit_partner : (x : ℕ) (b : List ℕ) → Rank (x ∷ b) → Exit1 (x ∷ b) → (lo : ℕ) × Partner b x lo
exit_partner x b r t = ⊎_elim (λ c. (1, partner_ones b x (case1_under x b r c) r c.plain)) repeated ((says_exit1 x b).to t)
  where
    repeated : Case3 x b → (lo : ℕ) × Partner b x lo
    repeated c = (x + num b x, partner_repeated b x _ (under_rise x b r (omega (arith, c.many, num-same x b))) r c.big c.clear)

pub other_partner : (x : ℕ) (b : List ℕ) → Rank (x ∷ b) → ¬ Exit1 (x ∷ b) → (rule1 (x ∷ b) ≡ x) ⊎ ((hi : ℕ) × Partner b hi x)
other_partner x b r n = elim (true? (test2 x b)) [
  | yes t ↦ two ((says_case2 x b).to t)
  | no t ↦ elim (true? (case4 x b (p_of x b))) [
    | yes t' ↦ inr (p_of x b, four ((says_case4 x b (p_of x b)).to t'))
    | no t' ↦ inl (rule1_5 x b n1 (λ c. t ((says_case2 x b).of c)) (λ c. n ((says_exit1 x b).of (inr c))) (λ c. t' ((says_case4 x b (p_of x b)).of c)))
  ]
]
  where
    n1 : ¬ Case1 x b
    n1 c = n ((says_exit1 x b).of (inl c))

    ones : Rank (1 ∷ b) → Plain (1 ∷ b) → 0 < num b 1 → Partner b (1 + num b 1) 1
    ones r h more = let u = under_rise 1 b r more in partner_ones b _ u (rank_rise b 1 _ u r) (plain_rise b _ u h)

    two : Case2 x b → (rule1 (x ∷ b) ≡ x) ⊎ ((hi : ℕ) × Partner b hi x)
    two c = elim (dec_lt 0 (num b 1)) [
      | yes more ↦ inr (1 + num b 1, rw c.is (ones (rw c.is at r) (rw c.is at c.plain) more))
      | no none ↦ inl (rule1_2 x b n1 c ∙ rw c.is (omega (arith, num-same 1 b)))
    ]

    four : Case4 x b (p_of x b) → Partner b (p_of x b) x
    four c =
        let p = p_of x b in
        let u = under_fall x b r c.big c.once in
        let ne : p ≢ 1 = c.not_one in
        partner_repeated b p x u (rank_fall b p x u r) (omega (arith, rank_positive (x ∷ b) r p (there ((num_mem b p).0 u.in_tail)))) (λ v m.
        let (np, s) = c.clear v (rw (before-tail (start (p ∷ b)) x p b) m) in
        ⊎_elim inl (λ e. inr (sym (tail-num b p x u v (mem_before _ p b v m) np) ∙ e)) s)

-- Rule 1 is an involution, and keeps rank form.
back_again : (x : ℕ) (b : List ℕ) → Rank (x ∷ b) → rule1 (rule1 (x ∷ b) ∷ b) ≡ x
back_again x b r = elim (true? (exit1 (x ∷ b))) [
  | yes t ↦ let (lo, q) = exit_partner x b r t in rw q.falls q.rises
  | no t ↦ ⊎_elim (λ e. rw e e) (λ (hi, q). rw q.rises q.falls) (other_partner x b r t)
]

pub rule1_undoes_rule1 : (w : List ℕ) → is_rank w ≡ true → change rule1 (change rule1 w) ≡ w
unfolding change
rule1_undoes_rule1 [] t = refl
rule1_undoes_rule1 (x ∷ b) t = ap (λ y. y ∷ b) (back_again x b ((says_rank (x ∷ b)).to t))

pub rank_change : (x : ℕ) (b : List ℕ) → Rank (x ∷ b) → Rank (rule1 (x ∷ b) ∷ b)
rank_change x b r = elim (true? (exit1 (x ∷ b))) [
  | yes t ↦ let (lo, q) = exit_partner x b r t in rw q.falls q.rank_lo
  | no t ↦ ⊎_elim (λ e. rw e r) (λ (hi, q). rw q.rises q.rank_hi) (other_partner x b r t)
]
