-- The loop that fills a page: the text so far, and what is still to come. Assumes nothing.
use mathlib.Core.Bool.{true, false, ◌&&◌, false≢true}
use mathlib.Core.List.{List, [], ◌++◌, append_assoc, append-nil}
use mathlib.Core.Path.{◌≡◌, refl, sym, ap, ◌∙◌}
use Prim.Native.Nat.{ℕ, zero, suc, ◌+◌, ◌-◌, ◌≤◌, ◌<◌}
use native.Mathlib.Omega.{arith}
use lib.Dec.{leb, ltb}
use lib.IntN.{ℤ}
use lib.ListN.{length, get_or, take, drop, length-append}
use lib.Seq.{length-take-le, get_or-take}
use borrow.Author.Tests.{lt-ltb, le-ltb}
use Rattle.weak_orders.specs.Window.{is_length}
use Rattle.weak_orders.proofs.FormTests.{says_length}
use Rattle.weak_orders.proofs.Tests.{says_and, says_lt, says_le}
use Rattle.successors.specs.NextSymbol.{steppable}
use Rattle.successors.proofs.Steppable.{Steppable}
use Rattle.successors.proofs.Stepped.{Stepped, stepped}
use Rattle.frames.specs.Answer.{newest}
use Rattle.levels.specs.Level.{level_of}
use Rattle.printing.specs.Writing.{written, Wrote}
use Rattle.printing.specs.Printing.{line_text, step_line, Printed, onward, last_line, below, page_of, over, page_in, laid_out}
use Rattle.printing.specs.Printing.{next_page}
use Rattle.printing.specs.declared.Printing.{Printing}
use Rattle.printing.proofs.Written.{wrote_none, wrote_then, wrote_length}

-- ---- a state that can be stepped

abbrev pub Steps : Printing → Type 0
Steps p = Steppable p.round.rule p.round.n p.round.window

-- the window after a step
pub onward-stepped : (p : Printing) → Steps p → length p.round.window ≡ 16 → Stepped p.round.rule p.round.n p.round.window (onward p).round.window
unfolding onward
onward-stepped p s long = stepped long s refl

pub onward_sized : (p q : Printing) → q ≡ onward p → Steps p → is_length q.round.n ≡ true
unfolding onward
onward_sized p q e s = rw e s.1.0

pub onward_left : (p q : Printing) → q ≡ onward p → p.done < p.last → q.last - q.done < p.last - p.done
unfolding onward
onward_left p q e h = rw e (omega arith)

-- ---- a page

below_nil : (t : Printed) → below [] t ≡ t
unfolding below
below_nil (p, t) = refl

below-below : (s t : List ℕ) (u : Printed) → below s (below t u) ≡ below (s ++ t) u
unfolding below
below-below s t (p, u) = rw append_assoc

-- nothing more comes where no line is left, or no room
page_over : (left room : ℕ) (p : Printing) → (0 < left → 128 ≤ room → ⊥) → page_of left room p ≡ (p, [])
unfolding page_of
page_over zero room p h = refl
page_over (suc left) room p h = rw (lt-ltb room 128 (omega (arith, h (omega arith))))

page_more : (left room : ℕ) (p : Printing) → 0 < left → 128 ≤ room →
    page_of left room p ≡ below (last_line (onward p)) (page_of (left - 1) (room - length (last_line (onward p))) (onward p))
unfolding page_of
page_more zero room p l h = absurd (omega arith)
page_more (suc left) room p l h = let e : suc left - 1 ≡ left = omega arith in rw (le-ltb room 128 h, e)

-- so much of the page is filled, and that is still to come
pub record Filling (p : Printing) (out : List ℕ) (now : Printing) (len : ℕ) (out' : List ℕ) : Type 0 where
  pub text : List ℕ
  pub wrote : Wrote out 0 text len out'
  pub room : length text ≤ length out
  pub steps : Steps now
  pub long : length now.round.window ≡ 16
  pub rest : page_of (p.last - p.done) (length out) p ≡ below text (page_of (now.last - now.done) (length out - length text) now)

pub filling_none : (p : Printing) (out : List ℕ) → Steps p → length p.round.window ≡ 16 → Filling p out p 0 out
filling_none p out s l = record {
  text = [];
  wrote = wrote_none out 0;
  room = omega arith;
  steps = s;
  long = l;
  rest = let e : length out - 0 ≡ length out = omega arith in rw (below_nil, e);
}

module _ {p : Printing} {out : List ℕ} {now : Printing} {len : ℕ} {out' : List ℕ} (f : Filling p out now len out') where
  pub filled : (len ≡ length f.text) × (length out' ≡ length out) × (len ≤ length out)
  filled =
      let same = wrote_length f.wrote (omega (arith, f.room)) in
      (omega (arith, f.wrote.end), same, omega (arith, f.wrote.end, f.room))

  one_more : {len' : ℕ} {out'' : List ℕ} → now.done < now.last → 128 ≤ length out' - len → length (last_line (onward now)) ≤ 128 →
      Wrote out' len (last_line (onward now)) len' out'' → Filling p out (onward now) len' out''
  unfolding onward
  one_more d h b w =
      let q = onward now in
      let (l, s, _) = filled in
      let all = length-append f.text (last_line q) in
      let left : now.last - now.done - 1 ≡ now.last - (now.done + 1) = omega arith in
      let room : length out - length f.text - length (last_line q) ≡ length out - length (f.text ++ last_line q) = omega arith in
      let more = page_more (now.last - now.done) (length out - length f.text) now (omega arith) (omega arith) in
      record {
        text = f.text ++ last_line q;
        wrote = wrote_then f.wrote w (omega (arith, f.room));
        room = omega arith;
        steps = (onward-stepped now f.steps f.long).ready;
        long = (onward-stepped now f.steps f.long).long;
        rest = f.rest ∙ ap (below f.text) more ∙ below-below f.text (last_line q) _ ∙ rw (left, room);
      }

  pub filling_on : (q : Printing) {len' : ℕ} {out'' : List ℕ} → q ≡ onward now → now.done < now.last → 128 ≤ length out' - len →
      length (last_line q) ≤ 128 → Wrote out' len (last_line q) len' out'' → Filling p out q len' out''
  filling_on q e d h b w = rw e (one_more d h (rw e at b) (rw e at w))

  pub filling_over : steppable p.round.rule p.round.n p.round.window ≡ true → (ltb now.done now.last && leb 128 (length out' - len)) ≡ false →
      (record { printing = now; len = len }, out') ≡ next_page p out
  unfolding next_page page_in laid_out over below written
  filling_over t e =
      let (l, s, _) = filled in
      let none = page_over (now.last - now.done) (length out - length f.text) now (λ a b. stop (omega arith) (omega arith)) in
      let page : page_of (p.last - p.done) (length out) p ≡ (now, f.text) =
      f.rest ∙ ap (below f.text) none ∙ ap (λ u. (now, u)) (append-nil f.text) in
      let z : 0 + length f.text ≡ length f.text = omega arith in
      rw (t, page, l, f.wrote.text, z)
    where
      stop : now.done < now.last → 128 ≤ length out' - len → ⊥
      stop a b = false≢true (sym e ∙ (says_and (says_lt now.done now.last) (says_le 128 (length out' - len))).of (a, b))

-- ---- a line, and the opening

-- the newest symbol of a window in an array
pub last_line_lem : (p : Printing) → is_length p.round.n ≡ true → length p.round.window ≡ 16 → (symbol : ℕ) (level : ℤ) →
    symbol ≡ get_or p.round.window (p.round.n - 1) 0 → level ≡ level_of p.round.rule p.round.setting symbol →
    line_text p.done symbol level (take p.round.n p.round.window) ≡ last_line p
unfolding last_line step_line newest
last_line_lem p e long symbol level s l =
    let (pos, few) = (says_length p.round.n).to e in
    let size = length-take-le p.round.n p.round.window (omega arith) in
    let new : get_or (take p.round.n p.round.window) (length (take p.round.n p.round.window) - 1) 0 ≡ symbol =
    rw size (get_or-take p.round.n p.round.window (p.round.n - 1) 0 (omega arith) ∙ sym s) in
    rw (new, l)

pub wrote_over : {out t out' : List ℕ} {next : ℕ} → Wrote out 0 t next out' → ◌≡◌ {A = ℕ × List ℕ} (next, out') (length t, over t out)
unfolding over written
wrote_over {t = t} w = let z : 0 + length t ≡ length t = omega arith in rw (w.text, w.end, z)

-- a copy to the front
pub wrote_front : (t out out' : List ℕ) (next : ℕ) → next ≡ length t → out' ≡ t ++ drop (length t) out → Wrote out 0 t next out'
unfolding written
wrote_front t out out' next n e = let z : 0 + length t ≡ length t = omega arith in record { text = e ∙ rw z; end = n ∙ sym z }
