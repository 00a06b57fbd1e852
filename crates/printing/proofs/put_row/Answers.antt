-- `put_row`: the fields one behind the other. Assumes nothing.
use mathlib.Core.List.{List, [], ◌∷◌, ◌++◌}
use mathlib.Core.Path.{subst}
use Prim.Native.Nat.{ℕ, ◌+◌, ◌≤◌}
use lib.IntN.{ℤ}
use lib.ListN.{length, take}
use mir.Facts.{to_z-of_z}
use Rattle.printing.specs.Printing.{line_text}
use Rattle.decimals.specs.Text.{decimal, signed, joined}
use Rattle.printing.specs.Writing.{Wrote}
use Rattle.printing.proofs.Written.{wrote_then, room_front, room_rest}
use Rattle.printing.proofs.put_row.Goals.{After-put_decimal_field-second, After-put_decimal_field-third, After-put_signed_field-fourth, Start}
use Rattle.printing.proofs.put_row.Goals as goal

-- a decimal field, the level's and the window's
abbrev number : ℕ → List ℕ
number v = decimal v ++ (32 ∷ [])

abbrev level : ℤ → List ℕ
level z = signed z ++ (32 ∷ [])

abbrev last : ℕ → List ℕ → List ℕ
last n w = joined (take n w) ++ (10 ∷ [])

-- the room for all of them, and behind each for those that follow
room₁ : (c : Start) → let a = c.args in
    a.at + length (number a.k ++ (number a.symbol ++ (level a.level ++ last a.n a.w))) ≤ length a.out.now
unfolding line_text
room₁ c = c.requires.2

room₂ : (c : After-put_decimal_field-second) → let a = c.args in let d = c.put_decimal_field-second in
    d.result + length (number a.symbol ++ (level a.level ++ last a.n a.w)) ≤ length d.new.out
unfolding line_text
room₂ c =
    let a = c.args in
    room_rest c.put_decimal_field-second.ensures (number a.symbol ++ (level a.level ++ last a.n a.w)) c.requires.2

second : (c : After-put_decimal_field-third) → let d = c.put_decimal_field-second in let e = c.put_decimal_field-third in
    Wrote d.new.out d.result (number c.args.symbol) e.result e.new.out
second c = rw c.from.ensures at c.put_decimal_field-third.ensures

room₃ : (c : After-put_decimal_field-third) → let a = c.args in let d = c.put_decimal_field-third in
    d.result + length (level a.level ++ last a.n a.w) ≤ length d.new.out
unfolding line_text
room₃ c =
    let a = c.args in
    let rest = level a.level ++ last a.n a.w in
    room_rest (second c) rest (room_rest c.put_decimal_field-second.ensures (number a.symbol ++ rest) c.requires.2)

third : (c : After-put_signed_field-fourth) → let d = c.put_decimal_field-third in let e = c.put_signed_field-fourth in
    Wrote d.new.out d.result (level c.args.level) e.result e.new.out
third c =
    let d = c.put_decimal_field-third in
    let e = c.put_signed_field-fourth in
    subst (λ z. Wrote d.new.out d.result (level z) e.result e.new.out) (to_z-of_z c.ranges.level) e.ensures

pub put_decimal_field-second-requires : goal.put_decimal_field-second-requires
put_decimal_field-second-requires c =
    let a = c.args in
    room_front _ _ (number a.k) (number a.symbol ++ (level a.level ++ last a.n a.w)) (room₁ (goal.at.put_decimal_field-second-requires c).Start)

pub put_decimal_field-third-requires : goal.put_decimal_field-third-requires
put_decimal_field-third-requires c =
    let a = c.args in
    rw c.from.ensures (room_front _ _ (number a.symbol) (level a.level ++ last a.n a.w) (room₂ (goal.at.put_decimal_field-third-requires c).After-put_decimal_field-second))

pub put_signed_field-fourth-requires : goal.put_signed_field-fourth-requires
put_signed_field-fourth-requires c =
    let a = c.args in
    let room = room₃ (goal.at.put_signed_field-fourth-requires c).After-put_decimal_field-third in
    rw (to_z-of_z c.ranges.level) (room_front _ _ (level a.level) (last a.n a.w) room)

pub put_joined_field-requires : goal.put_joined_field-requires
put_joined_field-requires c =
    let a = c.args in
    let here = goal.at.put_joined_field-requires c in
    let room = room_rest (third here.After-put_signed_field-fourth) (last a.n a.w) (room₃ here.After-put_decimal_field-third) in
    (c.requires.0, c.requires.1, room)

pub returns : goal.returns
unfolding line_text
returns c =
    let a = c.args in
    let here = goal.at.returns c in
    let rest = level a.level ++ last a.n a.w in
    let w₃ = wrote_then (third here.After-put_signed_field-fourth) c.put_joined_field.ensures
    (room_front _ _ (level a.level) (last a.n a.w) (room₃ here.After-put_decimal_field-third)) in
    let w₂ = wrote_then (second here.After-put_decimal_field-third) w₃
    (room_front _ _ (number a.symbol) rest (room₂ here.After-put_decimal_field-second)) in
    wrote_then c.put_decimal_field-second.ensures w₂ (room_front _ _ (number a.k) (number a.symbol ++ rest) (room₁ here.Start))
