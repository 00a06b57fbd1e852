-- `cyclic`: the symbol stands at i + k, or n places before that. Assumes nothing.
use borrow.Author.Rules.{rules}
use Rattle.rotations.proofs.Compared.{rotation_on, rotation_round}
use Rattle.rotations.proofs.cyclic.Goals as goal

pub returns-then-j-n : goal.returns-then-j-n
returns-then-j-n c = let a = c.args in
    (search rules, λ w le. rotation_on w a.n a.i le (search rules) a.k c.if-j-n.true)

pub returns : goal.returns
returns c = let a = c.args in
    (search rules, λ w le. rotation_round w a.n a.i le (search rules) a.k (search rules) c.if-j-n.false)
