-- `ended`: the byte after what was read is the one asked for. Assumes nothing.
use native.Mathlib.Omega.{arith}
use native.Mathlib.Numerals.{add-one}
use mathlib.Core.Path.{sym}
use Rattle.decimals.specs.Reading.{closed}
use Rattle.decimals.proofs.Answers.{starts_within}
use Rattle.decimals.proofs.Taken.ended.Goals as goal

pub returns-then-not-starts_with : goal.returns-then-not-starts_with
unfolding closed
returns-then-not-starts_with g c = rw (sym c.if-not-starts_with.ensures)

pub overflow_add-result : goal.overflow_add-result
overflow_add-result g c = record { fits = omega (arith, starts_within c.args.end c.args.s.now c.args.self.len (sym c.if-not-starts_with.ensures)) }

pub returns : goal.returns
unfolding closed
returns g c = rw (sym c.if-not-starts_with.ensures, add-one)
