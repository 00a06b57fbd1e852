-- What `play_in` comes to for a level file is one event, and the two bytes in front are its record's.
use Rattle.std.proofs.Common.{ℕ, List, ◌≡◌, ◌+◌, ◌*◌, ◌<◌, ◌≤◌, ◌^◌, sym, rules, arith, length, take, get_or, replicate, length-take-le}
use Rattle.std.proofs.lemmas.List.{length-replicate}
use Rattle.std.proofs.lemmas.Option.{IfSome_then}
use Rattle.records.specs.declared.Content.TheVariants.{LevelFile}
use Rattle.records.proofs.Reaching.{record_comes}
use Rattle.records.proofs.Running.{file_plays}
use Rattle.records.proofs.Streams.play_file.Goals as goal

pub returns-clause-comes : goal.returns-clause-comes
returns-clause-comes g c = IfSome_then c.play_in.result c.play_in.ensures.answered (λ t h. record_comes LevelFile _ t _ _ _ h)

pub returns-clause-plays : goal.returns-clause-plays
returns-clause-plays g c =
    let e = c.play_in.ensures in
    let low : get_or c.read_part.new.part 0 0 < 2 ^ 8 = search rules in
    let high : get_or c.read_part.new.part 1 0 < 2 ^ 8 = search rules in
    let n : ℕ = c.from.result + 256 * c.from-2.result in
    let zeros : List ℕ = replicate 65536 0 in
    let room : length zeros ≡ 65536 = length-replicate {A = ℕ} 65536 0 in
    let fits : n ≤ length zeros = omega (arith, room, c.from.ensures, c.from-2.ensures) in
    let lent : length c.play_in.new.bytes ≡ length (take n zeros) = c.play_in.auto.bytes in
    let len : length c.play_in.new.bytes ≡ get_or c.read_part.new.part 0 0 + 256 * get_or c.read_part.new.part 1 0 =
    omega (arith, lent, length-take-le n zeros fits, c.from.ensures, c.from-2.ensures) in
    rw (sym c.read_part.ensures.output)
    (file_plays _ c.play_in.result c.read_part.new.part c.play_in.new.bytes _ _ _ _ _ _ (search rules) (omega arith) len (c.read_part.ensures.taken (search rules)) e.answered e.taken e.written e.cut)
