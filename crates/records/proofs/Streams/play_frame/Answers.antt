-- What `play_in` comes to for a frame is one event, and the two lengths in front are its record's.
use Rattle.std.proofs.Common.{ℕ, List, ◌≡◌, ◌<◌, ◌≤◌, ◌^◌, sym, ap, ◌∙◌, arith, length, take, get_or, replicate, length-take-le, rules}
use Rattle.std.proofs.lemmas.List.{length-replicate}
use Rattle.std.proofs.lemmas.Option.{IfSome_then}
use Rattle.records.specs.declared.Content.TheVariants.{Frame}
use Rattle.records.proofs.Reaching.{record_comes}
use Rattle.records.proofs.Running.{buffer_of, frame_plays}
use Rattle.records.proofs.Streams.play_frame.Goals as goal

pub returns-clause-comes : goal.returns-clause-comes
returns-clause-comes g c = IfSome_then c.play_in.result c.play_in.ensures.answered (λ t h. record_comes Frame _ t _ _ _ h)

pub returns-clause-plays : goal.returns-clause-plays
returns-clause-plays g c =
    let e = c.play_in.ensures in
    let room : get_or c.read_part.new.part 0 0 < 2 ^ 8 = search rules in
    let short : get_or c.read_part.new.part 1 0 < 2 ^ 8 = search rules in
    let zeros : List ℕ = replicate 256 0 in
    let all : length zeros ≡ 256 = length-replicate {A = ℕ} 256 0 in
    let fits : c.from.result ≤ length zeros = omega (arith, all, c.from.ensures) in
    let lent : length c.play_in.new.bytes ≡ length (take c.from.result zeros) = c.play_in.auto.bytes in
    rw (sym c.read_part.ensures.output)
    (frame_plays _ c.play_in.result c.read_part.new.part c.play_in.new.bytes _ _ _ _ _ _ _
    (search rules)
    (buffer_of _ 256 _ c.filled-out.ensures (omega (arith, c.from-2.ensures)) ∙ ap (λ k. replicate k 165) c.from-2.ensures)
    (lent ∙ length-take-le c.from.result zeros fits ∙ c.from.ensures)
    (c.read_part.ensures.taken (search rules)) e.answered e.taken e.written e.cut)
