-- `earliest`: the places up to i are filled. Assumes nothing.
use mathlib.Core.Path.{◌≡◌}
use Rattle.filling.proofs.Steps.{FilledTo}
use Rattle.filling.proofs.Pattern.earliest.Given as goal

abbrev pub invariant-loop-i : goal.invariant-loop-i
invariant-loop-i l = (l.self.1.0 ≡ l.fn.self.n) × FilledTo l.fn.self.n l.fn.self.bytes l.self.0 l.v l.i
