-- The loop that fills a pattern in an array of 16, place by place. Assumes nothing.
use mathlib.Core.List.{List, [], ◌∷◌, ◌++◌}
use mathlib.Core.Path.{◌≡◌, refl, sym, ap, ◌∙◌}
use Prim.Native.Nat.{ℕ, ◌+◌, ◌≤◌, ◌<◌}
use native.Mathlib.Omega.{arith}
use native.Mathlib.Numerals.{add-one}
use lib.ListN.{length, take, drop, get_or, set, length-set}
use lib.Seq.{length-take-le, take-take, get_or-take, split_at, set_split, take-set-le, take-set-lt, take-suc-set, get_or-set_same}
use Rattle.weak_orders.specs.Window.{padded}
use Rattle.weak_orders.proofs.Padded.{padded-next}
use Rattle.filling.specs.Choice.{height_for}
use Rattle.filling.specs.Earliest.{earliest}
use Rattle.filling.specs.Pattern.{open_places}
use Rattle.filling.proofs.Fillings.{HasRoom, closed, room_kept, room_whole, first_whole, open_behind, earliest-kept}
use Rattle.filling.proofs.Firsts.{earliest_only}
use Rattle.filling.proofs.Patterns.{open_nil}

-- the first i places of w are filled, and the earliest filling of what stands in it is that of the pattern of n in p; v has those places with
-- zeros behind
pub record FilledTo (n : ℕ) (p w v : List ℕ) (i : ℕ) : Type 0 where
  pub inside : i ≤ n
  pub long : length w ≡ 16
  pub front : v ≡ padded (take i w)
  pub none_open : open_places (take i w) ≡ 0
  pub room : HasRoom n (take n w)
  pub same : earliest n (take n w) ≡ earliest n (take n p)

pub filled_start : (n : ℕ) (p v : List ℕ) → length p ≡ 16 → v ≡ padded [] → HasRoom n (take n p) → FilledTo n p p v 0
filled_start n p v l e R = record { inside = omega arith; long = l; front = e; none_open = open_nil; room = R; same = refl }

module _ (n : ℕ) (few : n ≤ 16) (p w v : List ℕ) (i : ℕ) (F : FilledTo n p w v i) where
  pub filled_end : n ≤ i → v ≡ padded (earliest n (take n p))
  filled_end ge =
      let all : i ≡ n = omega (arith, F.inside) in
      let e : open_places (take n w) ≡ 0 = rw all at F.none_open in
      let itself = earliest_only n (take n w) (take n w) (first_whole n (take n w) e (room_whole n (take n w) e F.room)) in
      F.front ∙ rw all (ap padded (itself ∙ F.same))

  module _ (lt : i < n) (x : ℕ) (e : x ≡ height_for (take n w) (get_or w i 0)) where
    abbrev behind : List ℕ
    behind = drop (i + 1) (take n w)

    size : length (take n w) ≡ n
    size = length-take-le n w (omega (arith, F.long))

    split_before : take n w ≡ take i w ++ (get_or w i 0 ∷ behind)
    split_before = split_at (take n w) i 0 (omega (arith, size)) ∙ rw (take-take i n w (omega arith), get_or-take n w i 0 lt, ← add-one i)

    chosen : x ≡ height_for (take i w ++ (get_or w i 0 ∷ behind)) (get_or w i 0)
    chosen = e ∙ ap (λ q. height_for q (get_or w i 0)) split_before

    split_after : take n (set w i x) ≡ take i w ++ (height_for (take i w ++ (get_or w i 0 ∷ behind)) (get_or w i 0) ∷ behind)
    split_after = take-set-lt n w i x lt
        ∙ set_split (take n w) i x (omega (arith, size))
        ∙ rw (take-take i n w (omega arith), ← add-one i, chosen)

    room_before : HasRoom n (take i w ++ (get_or w i 0 ∷ behind))
    room_before = rw split_before at F.room

    front_next : set v i x ≡ padded (take (i + 1) (set w i x))
    front_next = padded-next (set w i x) v i x
        (omega (arith, length-set w i x, F.long))
        (omega (arith, length-set w i x, F.long))
        (F.front ∙ ap padded (sym (take-set-le i w i x (omega arith))))
        (sym (get_or-set_same w i x 0 (omega (arith, F.long))))

    closed-next : open_places (take (i + 1) (set w i x)) ≡ 0
    closed-next =
        let start : take (i + 1) (set w i x) ≡ take i w ++ (x ∷ []) = rw (add-one i) (take-suc-set w i x (omega (arith, F.long))) in
        rw (start, chosen) (open_behind (take i w) _ F.none_open (closed n few (take i w) behind (get_or w i 0) room_before))

    pub filled_next : FilledTo n p (set w i x) (set v i x) (i + 1)
    filled_next = record {
      inside = omega arith;
      long = length-set w i x ∙ F.long;
      front = front_next;
      none_open = closed-next;
      room = rw split_after (room_kept n few (take i w) behind (get_or w i 0) room_before);
      same = ap (earliest n) split_after
          ∙ earliest-kept n few (take i w) behind (get_or w i 0) F.none_open room_before
          ∙ ap (earliest n) (sym split_before)
          ∙ F.same;
    }
