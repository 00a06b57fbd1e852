-- The step back (document 02, Paper 13): the window before w, and what `previous_symbol` answers for every rule, window and n.
use Rattle.std.specs.Prelude.{cond, List, ◌∷◌, ℕ, Result, ◌-◌, eqb, length, take}
use Rattle.refusals.specs.declared.Cause.{Cause}
use Rattle.rotations.specs.Rotation.{turned_back}
use Rattle.successors.specs.NextSymbol.{judged, answer_by}
use Rattle.successors.specs.Rules.{rule_of}

-- the rule that undoes a rule behind the same symbols: 1 itself, and 2 and 3 each other
unfoldable pub undoing : ℕ → ℕ
undoing r = cond (eqb r 2) 3 (cond (eqb r 3) 2 r)

-- document 02's step back, "the oldest symbol of the only window that the rule sends to" w: what the undoing rule makes of the newest symbol
unfoldable pub previous_of : ℕ → List ℕ → ℕ
unfolding undoing turned_back rule_of
previous_of r w = rule_of (undoing r) (turned_back w)

-- that window: this symbol, and w without its newest
unfoldable pub predecessor : ℕ → List ℕ → List ℕ
unfolding previous_of
predecessor r w = previous_of r w ∷ take (length w - 1) w

-- the symbol, refused as the next one is
unfoldable pub previous_symbol : ℕ → ℕ → List ℕ → Result ℕ Cause
unfolding answer_by judged previous_of
previous_symbol rule n w = answer_by (judged rule n w) (previous_of rule w)
