-- `has_room`: the two numbers compared. Assumes nothing.
use Rattle.filling.proofs.Scans.{table_open}
use Rattle.filling.proofs.Pattern.has_room.Goals as goal

pub returns : goal.returns
returns c = let p = c.args.self in
    let k = c.counts-t in
    rw (c.missing.ensures _ p.allowed k.ensures.value, c.from.ensures, table_open _ _ p.short p.allowed k.result k.ensures.value)
