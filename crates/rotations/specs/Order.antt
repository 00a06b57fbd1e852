-- Dictionary order of strings of symbols.
use Rattle.std.specs.Prelude.{Bool, true, false, cond, not, ◌&&◌, List, [], ◌∷◌, ℕ, ltb, eqb}
use Rattle.std.specs.declared.cmp.Ordering.{Ordering}
use Rattle.std.specs.declared.cmp.Ordering.TheVariants.{Less, Equal, Greater}

-- u stands before v in dictionary order, or is v
unfoldable pub lex_le : List ℕ → List ℕ → Bool
lex_le [] v = true
lex_le (x ∷ u) [] = false
lex_le (x ∷ u) (y ∷ v) = cond (eqb x y) (lex_le u v) (ltb x y)

-- u stands before v
unfoldable pub lex_lt : List ℕ → List ℕ → Bool
unfolding lex_le
lex_lt u v = not (lex_le v u)

-- u is v
unfoldable pub same : List ℕ → List ℕ → Bool
unfolding lex_le
same u v = lex_le u v && lex_le v u

-- where u stands beside v
unfoldable pub compared : List ℕ → List ℕ → Ordering
unfolding lex_lt same
compared u v = cond (lex_lt u v) Less (cond (same u v) Equal Greater)
