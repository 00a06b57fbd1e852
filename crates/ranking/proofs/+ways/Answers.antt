use mathlib.Core.Path.{◌≡◌, sym, ap, ◌∙◌}
use Prim.Native.Nat.{ℕ, ◌+◌, ◌-◌, ◌*◌, ◌≤◌}
use native.Mathlib.Decide.{dec_le}
use native.Mathlib.Omega.{arith}
use Rattle.ranking.specs.Counts.{ways as waysTo}
use Rattle.ranking.proofs.CountLaws.{ways_one_place, ways-none, ways_one_more}
use Rattle.ranking.proofs.Size.{most, ways_small}
use Rattle.ranking.proofs.+ways.Goals.{After-ways, After-one_missing-then-missing-eq2-2}
use Rattle.ranking.proofs.+ways.Goals as goal

-- what is left of the ways with one missing and one height more
two : (t : ℕ) (c : After-one_missing-then-missing-eq2-2 t) →
    let a = c.args in
    c.one_missing-then-missing-eq2.result ≡ waysTo a.rest 2 a.present + c.one_missing-then-missing-eq2-2.result
two t c =
    let a = c.args in
    omega (
      arith,
      c.one_missing-then-missing-eq2.ensures,
      c.one_missing-then-missing-eq2-2.ensures,
      ways_one_more a.rest 1 a.present,
    )

-- one place more is added, and its ways are not too many
next : (t : ℕ) (c : After-ways t) →
    let a = c.args in
    let l = c.loop-others in
    (a.missing * c.ways.result + a.present * l.total ≡ waysTo (l.others + 1) a.missing a.present)
    × (waysTo (l.others + 1) a.missing a.present ≤ most)
next t c =
    let a = c.args in
    let l = c.loop-others in (
      omega (arith, ways_one_place l.others a.missing a.present, ap (a.missing *◌) c.ways.ensures, ap (a.present *◌) l.invariant.1),
      ways_small (l.others + 1) a.missing a.present (omega (arith, c.requires)),
    )

pub overflow_sub-result : goal.overflow_sub-result
overflow_sub-result t c = omega (arith, two t (goal.at.overflow_sub-result t c).After-one_missing-then-missing-eq2-2)

pub returns-then-missing-eq2 : goal.returns-then-missing-eq2
returns-then-missing-eq2 t c =
    let a = c.args in
    omega (
      arith,
      two t (goal.at.returns-then-missing-eq2 t c).After-one_missing-then-missing-eq2-2,
      ap (λ m. waysTo a.rest m a.present) c.if-missing-eq2.true,
    )

pub loop-others-init : goal.loop-others-init
loop-others-init t c = let a = c.args in (omega arith, sym (ways-none (a.missing - 1) a.missing a.present (omega arith)))

pub overflow_mul-total : goal.overflow_mul-total
overflow_mul-total t c = let (e, le) = next t c in record { fits = omega arith }

pub overflow_mul-total-in-loop-others : goal.overflow_mul-total-in-loop-others
overflow_mul-total-in-loop-others t c = let (e, le) = next t c in record { fits = omega arith }

pub overflow_add-total : goal.overflow_add-total
overflow_add-total t c = let (e, le) = next t c in record { fits = omega arith }

pub loop-others-preserved : goal.loop-others-preserved
loop-others-preserved t c = (omega arith, (next t c).0)

pub returns : goal.returns
returns t c =
    let a = c.args in
    let l = c.loop-others in
    elim (dec_le a.missing a.rest) [
      | yes le ↦ let e : l.others ≡ a.rest = omega arith in l.invariant.1 ∙ ap (λ r. waysTo r a.missing a.present) e
      | no none ↦ omega (arith, l.invariant.1, ways-none l.others a.missing a.present (omega arith), ways-none a.rest a.missing a.present (omega arith))
    ]
