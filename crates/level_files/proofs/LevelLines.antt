-- The loop over the lines of a level file: the levels read, and the rest of the text. Assumes nothing.
use mathlib.Core.Bool.{true, false}
use mathlib.Core.List.{List, [], ◌∷◌, ◌++◌, append-nil}
use mathlib.Core.Path.{◌≡◌, refl, sym, ap, ◌∙◌}
use Prim.Native.Nat.{ℕ, suc, ◌+◌, ◌-◌, ◌≤◌, ◌<◌}
use native.Mathlib.Numerals.{add-one}
use native.Mathlib.Omega.{arith}
use lib.IntN.{ℤ, pos}
use lib.ListN.{length, take, drop, set, replicate, length-set}
use lib.Seq.{drop-drop, take_all, take-suc-set}
use Rattle.weak_orders.specs.Window.{all}
use Rattle.weak_orders.proofs.Tests.{says_and, says_itself}
use Rattle.levels.specs.Table.{level_allowed}
use Rattle.decimals.specs.Reading.{Found, found, missing, further, next, both}
use Rattle.decimals.proofs.Gathering.{after, after_none, after_more}
use Rattle.decimals.proofs.Readers.{further_within}
use Rattle.level_files.specs.LevelFile.{level_line, line_of, levels}
use Rattle.std.specs.Prelude.{Some, None}
use Rattle.level_files.specs.Held.{lines_of}
use Rattle.level_files.proofs.LevelTexts.{reads_line_of}

all_front : (vs l : List ℤ) → all level_allowed vs ≡ true → all level_allowed (vs ++ l) ≡ all level_allowed l
unfolding all
all_front [] l e = refl
all_front (x ∷ vs) l e =
    let (h, t) = (says_and (says_itself (level_allowed x)) (says_itself (all level_allowed vs))).to e in
    rw (h, all_front vs l t)

-- the lines below d are read, up to an index, and their levels are in the table
pub record Read (s : List ℕ) (table : List ℤ) (at d : ℕ) : Type 0 where
  pub few : d ≤ 16
  pub within : at ≤ length s
  pub long : length table ≡ 16
  pub allowed : all level_allowed (take d table) ≡ true
  pub rest : levels 16 0 s ≡ after (take d table) at (levels (16 - d) d (drop at s))

pub read_none : (s : List ℕ) → Read s (replicate 16 (pos 0)) 0 0
unfolding all
read_none s = record { few = omega arith; within = omega arith; long = refl; allowed = refl; rest = sym (after_none (levels 16 0 s)) }

pub read_all : (s : List ℕ) (table : List ℤ) (at d : ℕ) → Read s table at d → 16 ≤ d →
    lines_of (levels 16 0 s) ≡ Some (record { value = table; len = at })
unfolding levels after lines_of
read_all s table at d r h =
    let z : 16 - d ≡ 0 = omega arith in
    let full = take_all d table (omega (arith, r.long)) in
    let e : levels 16 0 s ≡ found table at =
    rw (z, full, append-nil) at r.rest ∙ ap (found table) (omega arith) in
    let ok : all level_allowed table ≡ true = rw full at r.allowed in
    rw (e, ok)

-- a level in front of those that follow
one_further : (z : ℤ) (k : ℕ) (f : Found (List ℤ)) →
    further 0 (λ (x : ℤ × List ℤ). x.0 ∷ x.1) (further k (λ y. (z, y)) f) ≡ further k (λ l. z ∷ l) f
unfolding further
one_further z k (found l m) = let e : 0 + (k + m) ≡ k + m = omega arith in rw e
one_further z k missing = refl

-- with a level that no table may hold there are no lines
refused : (vs : List ℤ) (at : ℕ) (z : ℤ) (k : ℕ) (f : Found (List ℤ)) → all level_allowed vs ≡ true → level_allowed z ≡ false →
    lines_of (after vs at (further k (λ l. z ∷ l) f)) ≡ None
unfolding further after lines_of all
refused vs at z k (found l m) a f = rw (all_front vs (z ∷ l) a, f)
refused vs at z k missing a f = refl

module _ (s : List ℕ) (table : List ℤ) (at d : ℕ) (r : Read s table at d) (room : d < 16) where
  step : levels 16 0 s ≡ after (take d table) at (further 0 (λ (x : ℤ × List ℤ). x.0 ∷ x.1)
      (both (λ t. line_of d (level_line t)) (levels (15 - d) (suc d)) (drop at s)))
  unfolding levels
  step = let e : 16 - d ≡ suc (15 - d) = omega arith in rw e at r.rest

  pub read_missing : line_of d (level_line (drop at s)) ≡ missing → lines_of (levels 16 0 s) ≡ None
  unfolding both next further after lines_of
  read_missing e = ap lines_of (rw e at step)

  module _ {z : ℤ} {k : ℕ} (e : line_of d (level_line (drop at s)) ≡ found z k) where
    line : levels 16 0 s ≡ after (take d table) at (further k (λ l. z ∷ l) (levels (15 - d) (suc d) (drop (at + k) s)))
    unfolding both next
    line = rw (e, one_further z k (levels (15 - d) (suc d) (drop k (drop at s))), drop-drop k at s) at step

    pub read_refused : level_allowed z ≡ false → lines_of (levels 16 0 s) ≡ None
    read_refused f = ap lines_of line ∙ refused (take d table) at z k (levels (15 - d) (suc d) (drop (at + k) s)) r.allowed f

    pub line_within : at + k ≤ length s
    line_within = further_within (reads_line_of d) s at e r.within

    pub read_on : level_allowed z ≡ true → Read s (set table d z) (at + k) (d + 1)
    unfolding all
    read_on ok =
        let more : take (d + 1) (set table d z) ≡ take d table ++ (z ∷ []) = rw (add-one, take-suc-set table d z (omega (arith, r.long))) in
        let on = line ∙ after_more (take d table) at z k (levels (15 - d) (suc d) (drop (at + k) s)) in
        let left : 15 - d ≡ 16 - (d + 1) = omega arith in
        record {
          few = omega arith;
          within = line_within;
          long = length-set table d z ∙ r.long;
          allowed = rw (more, all_front (take d table) (z ∷ []) r.allowed, ok);
          rest = rw more (rw (left, ← add-one d) at on);
        }
