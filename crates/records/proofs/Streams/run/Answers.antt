-- A record that was played is an event more, and the last one ends the run.
use Rattle.std.proofs.Common.{rules}
use Rattle.records.proofs.Reaching.{reached_fresh, reached_more}
use Rattle.records.proofs.Running.{all_fresh, all_more, all_end, all_rest}
use Rattle.records.proofs.Streams.run.Goals as goal

pub loop-init : goal.loop-init
loop-init g c = (reached_fresh _ c.fresh-session.ensures, all_fresh _ _ _ _ c.fresh-session.ensures)

pub loop-preserved : goal.loop-preserved
loop-preserved g c = (reached_more _ _ _ c.loop.invariant.0 c.in-Some.ensures.comes, all_more _ _ _ _ _ _ _ _ _ _ c.loop.invariant.1 c.in-Some.ensures.plays)

pub returns-clause-ran : goal.returns-clause-ran
returns-clause-ran g c = rw c.report_rest.ensures.output (all_rest _ _ _ _ _ _ _ _ _ _ (search rules) c.loop.invariant.1 c.report_rest.ensures.some.1)

pub returns-in_default-clause-ran : goal.returns-in_default-clause-ran
returns-in_default-clause-ran g c = all_end _ _ _ _ _ _ _ _ _ _ (search rules) c.loop.invariant.1 c.in_default.ensures.plays
