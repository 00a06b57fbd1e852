-- `put`: one byte, and the next index. Assumes nothing.
use Rattle.printing.proofs.Written.{wrote_byte}
use Rattle.printing.proofs.writer.put.Goals as goal

pub returns : goal.returns
returns c = wrote_byte _ _ _ c.requires
