-- Writing one thing behind another into a slice. Assumes nothing.
use mathlib.Core.List.{List, [], ◌∷◌, ◌++◌, append_assoc}
use mathlib.Core.Path.{◌≡◌, refl, sym, ap, ◌∙◌}
use Prim.Native.Nat.{ℕ, ◌+◌, ◌/◌, ◌%◌, ◌≤◌, ◌<◌}
use native.Mathlib.Numerals.{add-one}
use native.Mathlib.Omega.{arith}
use lib.ListN.{length, take, drop, set, length-append, length-drop, take-append-drop}
use lib.Seq.{length-take-le, set_split, take_at, drop-drop, drop-append-add}
use Rattle.decimals.specs.Text.{decimal}
use Rattle.printing.specs.Writing.{written, Wrote, Counts}
use Rattle.decimals.proofs.Digits.{decimal_small, decimal_more, decimal_longer}

written-length : (out : List ℕ) (at : ℕ) (t : List ℕ) → at + length t ≤ length out → length (written out at t) ≡ length out
unfolding written
written-length out at t h = omega (
  arith,
  length-append (take at out) (t ++ drop (at + length t) out),
  length-append t (drop (at + length t) out),
  length-take-le at out (omega arith),
  length-drop (at + length t) out,
)

pub wrote_length : {out t out' : List ℕ} {at next : ℕ} → Wrote out at t next out' → at + length t ≤ length out → length out' ≡ length out
wrote_length {out} {t} {at = at} w h = ap length w.text ∙ written-length out at t h

pub wrote_byte : (out : List ℕ) (at b : ℕ) → at < length out → Wrote out at (b ∷ []) (at + 1) (set out at b)
unfolding written
wrote_byte out at b h = record { text = set_split out at b h ∙ rw add-one; end = refl }

pub wrote_none : (out : List ℕ) (at : ℕ) → Wrote out at [] at out
unfolding written
wrote_none out at =
    let e : at + 0 ≡ at = omega arith in
    record { text = sym (take-append-drop at out) ∙ rw e; end = omega arith }

-- a text and another right behind it are one text
written_then : (out : List ℕ) (at : ℕ) (t u : List ℕ) → at + length t ≤ length out →
    written (written out at t) (at + length t) u ≡ written out at (t ++ u)
unfolding written
written_then out at t u h =
    let p = take at out ++ t in
    let n : length p ≡ at + length t = omega (arith, length-append (take at out) t, length-take-le at out (omega arith)) in
    let whole : take at out ++ (t ++ drop (at + length t) out) ≡ p ++ drop (at + length t) out = sym (append_assoc (take at out) t _) in
    let all : at + length (t ++ u) ≡ at + length t + length u = omega (arith, length-append t u) in
    let rest : drop (at + length t + length u) (p ++ drop (at + length t) out) ≡ drop (at + length t + length u) out =
    rw (← n) (drop-append-add p (drop (length p) out) (length u) ∙ drop-drop (length u) (length p) out) in
    rw (whole, take_at p (drop (at + length t) out) (at + length t) n, rest, all, append_assoc, append_assoc)

pub wrote_then : {out t u out' out'' : List ℕ} {at next last : ℕ} → Wrote out at t next out' → Wrote out' next u last out'' →
    at + length t ≤ length out → Wrote out at (t ++ u) last out''
wrote_then {out} {t} {u} {at = at} w v h = record {
  text = v.text ∙ rw (w.text, w.end) (written_then out at t u h);
  end = v.end ∙ omega (arith, w.end, length-append t u);
}

-- room for two texts is room for the first, and then for the second
pub room_front : (at room : ℕ) (t u : List ℕ) → at + length (t ++ u) ≤ room → at + length t ≤ room
room_front at room t u h = omega (arith, length-append t u)

pub room_rest : {out t out' : List ℕ} {at next : ℕ} → Wrote out at t next out' → (u : List ℕ) → at + length (t ++ u) ≤ length out →
    next + length u ≤ length out'
room_rest {out} {t} {at = at} w u h =
    omega (arith, length-append t u, w.end, wrote_length w (room_front at (length out) t u h))

-- ---- a decimal

pub decimal_one : {out out' : List ℕ} {at next : ℕ} (v : ℕ) → v < 10 → Wrote out at ((48 + v) ∷ []) next out' → Wrote out at (decimal v) next out'
decimal_one v h w = rw (decimal_small v h) w

pub decimal_then : {out out' out'' : List ℕ} {at next last : ℕ} (v : ℕ) → 10 ≤ v →
    Wrote out at (decimal (v / 10)) next out' → Wrote out' next ((48 + v % 10) ∷ []) last out'' →
    at + length (decimal v) ≤ length out → Wrote out at (decimal v) last out''
decimal_then v h w u room = rw (decimal_more v h) (wrote_then w u (omega (arith, decimal_longer v h)))

-- ---- a count of bytes

pub counts : (out : List ℕ) (n : ℕ) → n ≤ length out → Counts n out
counts out n h = (h, sym (length-take-le n out h))
