-- `begins_with`: the bytes of t are compared with the front. Assumes nothing.
use mathlib.Core.Path.{sym, ◌∙◌}
use lib.ListN.{length, take}
use Rattle.weak_orders.proofs.Tests.{same_test, says_as}
use Rattle.frames.proofs.ByteTests.{pointwise_same_bytes, says_same_bytes}
use Rattle.decimals.proofs.Cursors.{says_begins}
use Rattle.decimals.proofs.begins_with.Goals as goal

pub returns : goal.returns
returns c =
    let s = c.args.s.now in
    let t = c.args.t.now in
    let front = take (length t) s in
    c.starts_with.ensures.value ∙ pointwise_same_bytes t front ∙ same_test (says_as (says_same_bytes t front) sym sym) (says_begins t s)
