-- What the readers answer, for what they find.
use Rattle.std.specs.Prelude.{List, ℕ, length, Option, Some, None}
use Rattle.weak_orders.specs.Window.{padded}
use Rattle.decimals.specs.Reading.{Found, found, missing}
use Rattle.decimals.specs.declared.Taken.{Taken}
use Rattle.decimals.specs.declared.NumberList.{NumberList}

-- what was found, held as another value
abbrev pub taken_as : {A B : Type 0} → (A → B) → Found A → Option (Taken B)
taken_as f (found x k) = Some (record { value = f x; len = k })
taken_as f missing = None

abbrev pub taken : {A : Type 0} → Found A → Option (Taken A)
taken f = taken_as (λ x. x) f

-- decimals in an array of sixteen, with zeros behind
abbrev pub numbers_of : List ℕ → NumberList
numbers_of l = record { values = padded l; count = length l }
