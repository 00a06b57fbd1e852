-- After each record, no more events than records lead to the session, and what was taken and written is theirs.
use Rattle.records.specs.Answered.{Reached}
use Rattle.records.specs.Runs.{PlaysAll}
use Rattle.records.proofs.Streams.run.Given as goal

abbrev pub invariant-loop : goal.invariant-loop
invariant-loop g l =
    Reached l.counter l.session
    × PlaysAll l.kind l.counter l.session (g.I.Read.remaining l.initial.self.input) (g.I.Read.remaining l.self.input) (g.O.Write.contents l.initial.self.output) (g.O.Write.contents l.self.output)
