-- A record's lengths and what they announce are its bytes, and a run's records and answers are those of its turns.
use Rattle.std.proofs.Common.{List, [], ◌∷◌, ◌++◌, ◌≡◌, inl, inr, refl, sym, ap, ◌∙◌, subst, ℕ, ◌+◌, ◌*◌, ◌%◌, ◌/◌, ◌<◌, ◌≤◌, ◌-◌, arith, length, take, drop, get_or, replicate, append-nil, append_assoc, length-append, rules, Option, Some, None, IfSome, IsSome, IsNone}
use Rattle.std.proofs.lemmas.List.{length-replicate, drop-take, drop-replicate, take-replicate}
use Rattle.std.proofs.lemmas.List.Elements.{All-append}
use Rattle.std.proofs.KnownBytes.{Consumes-nil, Consumes-trans, Appends-nil, Appends-trans}
use Rattle.std.specs.Io.KnownBytes.{Appends, Consumes}
use Rattle.stepper.specs.declared.session.Session.{Session}
use Rattle.stepper.specs.ExactlyOnce.{Event, question, level_file, next, after}
use Rattle.stepper.specs.Exchange.{fresh}
use Rattle.records.specs.declared.Kind.{Kind}
use Rattle.records.specs.declared.Kind.TheVariants.{Events}
use Rattle.records.specs.declared.Content.TheVariants.{Frame, LevelFile}
use Rattle.records.proofs.Reaching.{after_more}
use Rattle.records.specs.Answered.{answered}
use Rattle.records.specs.Runs.{body_of, letter_of, record_of, records_of, answer_to, answers_to, IsFrame, IsFile, IsOf, Plays, Ends, Cut, PlaysOrEnds, PlaysAll, Ran}

frame_body : (lengths frame buffer : List ℕ) → length lengths ≡ 2 → buffer ≡ replicate (get_or lengths 0 0) 165 → length frame ≡ get_or lengths 1 0
    → lengths ++ frame ≡ length buffer ∷ length frame ∷ frame
frame_body [] frame buffer h b f = absurd (omega arith)
frame_body (x ∷ []) frame buffer h b f = absurd (omega arith)
frame_body (x ∷ y ∷ []) frame buffer h b f = let e : length buffer ≡ x = ap length b ∙ length-replicate x 165 in cc
frame_body (x ∷ y ∷ z ∷ l) frame buffer h b f = absurd (omega arith)

file_body : (lengths file : List ℕ) → length lengths ≡ 2 → get_or lengths 0 0 < 256 → length file ≡ get_or lengths 0 0 + 256 * get_or lengths 1 0
    → lengths ++ file ≡ length file % 256 ∷ length file / 256 ∷ file
file_body [] file h b f = absurd (omega arith)
file_body (x ∷ []) file h b f = absurd (omega arith)
file_body (x ∷ y ∷ []) file h b f =
    let low : length file % 256 ≡ x = omega arith in
    let high : length file / 256 ≡ y = omega arith in
    cc
file_body (x ∷ y ∷ z ∷ l) file h b f = absurd (omega arith)

-- what is behind the first byte of a part of the buffer
pub buffer_of : (r m : ℕ) (all : List ℕ) → all ≡ replicate m 165 → r < m → drop 1 (take (1 + r) all) ≡ replicate r 165
buffer_of r m all e lt = drop-take 1 r all ∙ ap (λ l. take r (drop 1 l)) e ∙ ap (take r) (drop-replicate 1 m 165) ∙ take-replicate r (m - 1) 165 (omega arith)

filled_frame : (n : ℕ) (buffer : List ℕ) → buffer ≡ replicate n 165 → buffer ≡ replicate (length buffer) 165
filled_frame n buffer e = e ∙ ap (λ k. replicate k 165) (sym (ap length e ∙ length-replicate n 165))

pub frame_plays : (s : Session) (r : Option Session) (lengths frame buffer out : List ℕ) (a b c o o' : Option (List ℕ))
    → length lengths ≡ 2 → buffer ≡ replicate (get_or lengths 0 0) 165 → length frame ≡ get_or lengths 1 0
    → Consumes a b lengths
    → IfSome r (λ t. (t, out) ≡ answered Frame s frame buffer)
    → (IsSome r → Consumes b c frame)
    → (IsSome r → Appends o o' out)
    → (IsNone r → Cut frame (answered Frame s frame buffer).1 b c o o')
    → PlaysOrEnds body_of IsFrame s r a c o o'
unfolding next
frame_plays s (Some t) lengths frame buffer out a b c o o' two held len front ans taken written cut = record {
  event = question (record { frame = frame; buffer = buffer });
  held = filled_frame _ _ held;
  left = ap (λ (p : Session × List ℕ). p.0) ans;
  taken = subst (Consumes a c) (frame_body lengths frame buffer two held len) (Consumes-trans _ _ _ _ _ front (taken refl));
  written = subst (Appends o o') (ap (λ (p : Session × List ℕ). p.1) ans) (written refl);
}
frame_plays s None lengths frame buffer out a b c o o' two held len front ans taken written cut =
    let k = cut refl in
    record {
      rest = lengths ++ k.rest;
      gap = k.gap;
      taken = Consumes-trans _ _ _ _ _ front k.taken;
      written = k.written;
      cut = elim k.cut [
        | inl none ↦ inl none
        | inr all ↦ inr (question (record { frame = frame; buffer = buffer }), filled_frame _ _ held, ap (λ l. lengths ++ l) all.0 ∙ frame_body lengths frame buffer two held len, all.1)
      ];
    }

pub file_plays : (s : Session) (r : Option Session) (lengths file out : List ℕ) (a b c o o' : Option (List ℕ))
    → length lengths ≡ 2 → get_or lengths 0 0 < 256 → length file ≡ get_or lengths 0 0 + 256 * get_or lengths 1 0
    → Consumes a b lengths
    → IfSome r (λ t. (t, out) ≡ answered LevelFile s file [])
    → (IsSome r → Consumes b c file)
    → (IsSome r → Appends o o' out)
    → (IsNone r → Cut file (answered LevelFile s file []).1 b c o o')
    → PlaysOrEnds body_of IsFile s r a c o o'
unfolding next
file_plays s (Some t) lengths file out a b c o o' two low len front ans taken written cut = record {
  event = level_file file;
  held = tt;
  left = ap (λ (p : Session × List ℕ). p.0) ans;
  taken = subst (Consumes a c) (file_body lengths file two low len) (Consumes-trans _ _ _ _ _ front (taken refl));
  written = subst (Appends o o') (ap (λ (p : Session × List ℕ). p.1) ans) (written refl);
}
file_plays s None lengths file out a b c o o' two low len front ans taken written cut =
    let k = cut refl in
    record {
      rest = lengths ++ k.rest;
      gap = k.gap;
      taken = Consumes-trans _ _ _ _ _ front k.taken;
      written = k.written;
      cut = elim k.cut [
        | inl none ↦ inl none
        | inr all ↦ inr (level_file file, tt, ap (λ l. lengths ++ l) all.0 ∙ file_body lengths file two low len, all.1)
      ];
    }

pub one_of : (l : List ℕ) (n : ℕ) → length l ≡ 1 → get_or l 0 0 ≡ n → l ≡ n ∷ []
one_of [] n h e = absurd (omega arith)
one_of (x ∷ []) n h e = ap (λ k. k ∷ []) e
one_of (x ∷ y ∷ l) n h e = absurd (omega arith)

pub frame_letter : (e : Event) → IsFrame e → letter_of e ≡ 70
frame_letter (question x) h = refl
frame_letter (level_file f) h = absurd h

pub file_letter : (e : Event) → IsFile e → letter_of e ≡ 76
file_letter (question x) h = absurd h
file_letter (level_file f) h = refl

with_letter : (letter : List ℕ) (n : ℕ) (e : Event) → letter ≡ n ∷ [] → letter_of e ≡ n → letter ++ body_of e ≡ record_of Events e
with_letter letter n e l is = ap (λ k. k ++ body_of e) (l ∙ ap (λ k. k ∷ []) (sym is))

-- the letter in front makes a frame or a level file a record of events
pub letter_plays : (holds : Event → Type 0) (n : ℕ) (s : Session) (r : Option Session) (letter : List ℕ) (a b c o o' : Option (List ℕ))
    → letter ≡ n ∷ []
    → ((e : Event) → holds e → letter_of e ≡ n)
    → ((e : Event) → holds e → IsOf Events e)
    → Consumes a b letter
    → PlaysOrEnds body_of holds s r b c o o'
    → PlaysOrEnds (record_of Events) (IsOf Events) s r a c o o'
letter_plays holds n s (Some t) letter a b c o o' l is sub front p = record {
  event = p.event;
  held = sub p.event p.held;
  left = p.left;
  taken = subst (Consumes a c) (with_letter letter n p.event l (is p.event p.held)) (Consumes-trans _ _ _ _ _ front p.taken);
  written = p.written;
}
letter_plays holds n s None letter a b c o o' l is sub front k = record {
  rest = letter ++ k.rest;
  gap = k.gap;
  taken = Consumes-trans _ _ _ _ _ front k.taken;
  written = k.written;
  cut = elim k.cut [
    | inl none ↦ inl none
    | inr x ↦ inr (x.0, sub x.0 x.1, ap (λ r. letter ++ r) x.2 ∙ with_letter letter n x.0 l (is x.0 x.1), x.3)
  ];
}

records_more : (k : Kind) (l : List Event) (e : Event) → records_of k (l ++ (e ∷ [])) ≡ records_of k l ++ record_of k e
records_more k [] e = append-nil (record_of k e)
records_more k (x ∷ l) e = ap (λ r. record_of k x ++ r) (records_more k l e) ∙ sym (append_assoc (record_of k x) (records_of k l) (record_of k e))

answers_more : (s : Session) (l : List Event) (e : Event) → answers_to s (l ++ (e ∷ [])) ≡ answers_to s l ++ answer_to (after s l) e
unfolding after
answers_more s [] e = append-nil (answer_to s e)
answers_more s (x ∷ l) e =
    ap (λ r. answer_to s x ++ r) (answers_more (next s x) l e) ∙ sym (append_assoc (answer_to s x) (answers_to (next s x) l) (answer_to (after (next s x) l) e))

pub all_fresh : (k : Kind) (s : Session) (a o : Option (List ℕ)) → s ≡ fresh → PlaysAll k 0 s a a o o
unfolding after
all_fresh k s a o e = record { events = []; few = omega arith; held = search rules; left = e; taken = Consumes-nil a; written = Appends-nil o }

pub all_more : (k : Kind) (n : ℕ) (s t : Session) (a b c o p q : Option (List ℕ))
    → PlaysAll k n s a b o p → Plays (record_of k) (IsOf k) s t b c p q → PlaysAll k (n + 1) t a c o q
all_more k n s t a b c o p q r x = record {
  events = r.events ++ (x.event ∷ []);
  few = omega (arith, length-append r.events (x.event ∷ []), r.few);
  held = All-append (IsOf k) r.events (x.event ∷ []) r.held (search (rules, x.held));
  left = x.left ∙ rw (r.left, after_more fresh r.events x.event);
  taken = subst (Consumes a c) (sym (records_more k r.events x.event)) (Consumes-trans _ _ _ _ _ r.taken x.taken);
  written = subst (Appends o q) (sym (answers_more fresh r.events x.event)) (Appends-trans _ _ _ _ _ r.written (subst (λ (u : Session). Appends p q (answer_to u x.event)) r.left x.written));
}

pub all_end : (k : Kind) (n m : ℕ) (s : Session) (a b c o p q : Option (List ℕ))
    → n ≤ m → PlaysAll k n s a b o p → Ends (record_of k) (IsOf k) s b c p q → Ran k m s a c o q
all_end k n m s a b c o p q le r x = record {
  events = r.events;
  few = omega (arith, r.few);
  held = r.held;
  left = r.left;
  rest = x.rest;
  gap = x.gap;
  taken = Consumes-trans _ _ _ _ _ r.taken x.taken;
  written = Appends-trans _ _ _ _ _ r.written x.written;
  cut = x.cut;
}

-- what is read behind the last record that is played
pub all_rest : (k : Kind) (n m : ℕ) (s : Session) (bs : List ℕ) (a b c o p : Option (List ℕ))
    → n ≤ m → PlaysAll k n s a b o p → Consumes b c bs → Ran k m s a c o p
all_rest k n m s bs a b c o p le r x =
    all_end k n m s a b c o p p le r (record { rest = bs; gap = []; taken = x; written = Appends-nil p; cut = inl refl })
