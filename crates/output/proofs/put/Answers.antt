-- What a write took of the rest is behind what was written before.
use Rattle.std.proofs.Common.{◌≡◌, ℕ, ◌+◌, ◌-◌, List, ◌++◌, rules, length, take, drop, sym, ap, ◌∙◌, subst}
use Rattle.std.proofs.lemmas.List.{take_rest}
use Rattle.std.proofs.KnownBytes.{Appends-trans}
use Rattle.std.specs.Io.KnownBytes.{Appends}
use lib.Seq.{take-add}
use Rattle.output.proofs.put.Goals as goal

joined : (a n : ℕ) (xs : List ℕ) → take a xs ++ take n (take (length xs - a) (drop a xs)) ≡ take (a + n) xs
joined a n xs =
    ap (λ l. take a xs ++ take n l) (take_rest xs a) ∙ sym (take-add a n xs)

pub loop-len-preserved : goal.loop-len-preserved
loop-len-preserved g c =
    let part = c.write_once-part in
    (search rules, subst (Appends _ _) (joined _ _ _) (Appends-trans _ _ _ _ _ c.loop-len.invariant.1 part.ensures.bytes))
