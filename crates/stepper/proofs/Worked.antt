-- The instance of demand 3 and the refusals, by computation. Assumes nothing.
use mathlib.Core.Bool.{true, false≢true}
use mathlib.Core.List.{List, [], ◌∷◌}
use mathlib.Core.Logic.{◌⊎◌, inl}
use mathlib.Core.Option.{Option, none, some}
use mathlib.Core.Path.{◌≡◌, refl, ap, ◌∙◌, subst}
use Prim.Native.Nat.{ℕ, zero, suc, ◌+◌}
use native.Mathlib.Omega.{arith}
use lib.IntN.{ℤ, pos}
use lib.ListN.{length, take, drop, get_elem?}
use Rattle.frames.specs.Fields.{is_bytes}
use Rattle.frames.specs.Question.{kind_in, letter_s, number_in, takes_table}
use Rattle.levels.specs.Table.{table_ok}
use Rattle.frames.specs.declared.answer.Reply.TheVariants.{Accepted}
use Rattle.frames.specs.Answer.{state_reply}
use Rattle.level_files.specs.LevelFile.{table_text, read_table}
use Rattle.level_files.proofs.LevelFiles.{reads_table}
use Rattle.stepper.specs.declared.session.Session.{Session}
use Rattle.stepper.specs.Exchange.{has_begun, fresh, exchange, with_table, loaded, load_levels}
use Rattle.stepper.specs.ExactlyOnce.{passes, of_round, round_of, count_of, Request, arrival, Event, question, level_file, questions, arrivals, next}
use Rattle.stepper.specs.ExactlyOnce.{answers, copy_after, InOrder, BeginAgain, FramesOf, firsts}
use Rattle.stepper.specs.Example.{beginning, stepping, asking, lent, sent, replies, ordered, arrived, odd, left_reference, left_retried}
use Rattle.stepper.specs.Example.{left_heights, spaced, coarse, fine, flat, holding, odd_holding, beginning_on_table, left_holding, left_odd}
use Rattle.stepper.specs.Example.{ordered_loads, arrived_loads, TableInstance, kept_in, kept, Tables}
use Rattle.stepper.specs.Example.{Instance, reply_to, reply_later, Fields, Refusals}
use Rattle.stepper.proofs.ExactlyOnce.{steps_exactly_once}
use Rattle.stepper.proofs.RoundLevels.{round_levels}

-- what holds at each position of a list
abbrev pub Each : {A : Type 0} → (ℕ → A → Type 0) → List A → Type 0
Each P [] = Unit {0}
Each P (x ∷ l) = P 0 x × Each (λ i. P (suc i)) l

each : {A : Type 0} (P : ℕ → A → Type 0) (l : List A) → Each P l → (i : ℕ) (x : A) → get_elem? l i ≡ some x → P i x
each P [] h i x e = absurd (let z : ◌≡◌ {A = ℕ} 0 1 = cc in omega arith)
each P (y ∷ l) h zero x e = let p : y ≡ x = cc in subst (P 0) p h.0
each P (y ∷ l) h (suc i) x e = each (λ i. P (suc i)) l h.1 i x e

-- an event that may stand at a position of the retried session's list
abbrev pub MayStand : List ℕ → List Event → ℕ → Event → Type 0
MayStand g l i (question x) = (kind_in x.frame ≡ letter_s) ⊎ BeginAgain g (take i l) x
MayStand g l i (level_file f) = Unit {0}

pub frames_of : (g : List ℕ) (l : List Event) → Each (MayStand g l) l → FramesOf g l
frames_of g l h = record { each = λ i x e. each (MayStand g l) l h i (question x) e }

-- and a frame that may stand at one of the reference session's
abbrev pub Orderly : List ℕ → ℕ → Request → Type 0
Orderly g i x =
    (kind_in x.frame ≡ letter_s) × ((passes (arrival x) ≡ true) × ((of_round g (arrival x) ≡ true) × (number_in x.frame ≡ i + 1)))

pub in_order : (g : List ℕ) (l : List Request) → length l ≡ round_of g → Each (Orderly g) l → InOrder g l
in_order g l long h =
    let at = each (Orderly g) l h in
    record {
      long = long;
      step = λ i x e. (at i x e).0;
      pass = λ i x e. (at i x e).1.0;
      round = λ i x e. (at i x e).1.1.0;
      numbered = λ i x e. (at i x e).1.1.1;
    }

pub «instance» : Instance
unfolding beginning stepping lent replies ordered arrived odd left_reference left_retried has_begun fresh exchange passes of_round number_in round_of count_of questions arrivals next answers firsts takes_table is_bytes
«instance» = record {
  round = refl;
  accepted_reference = refl;
  accepted_retried = refl;
  replied = refl;
  count = refl;
  windows = refl;
  answer = refl;
  untouched = refl;
  refusal = refl;
  both = steps_exactly_once fresh odd beginning (lent 40) (lent 45) ordered arrived refl refl refl refl (λ t. absurd (false≢true t))
      (in_order beginning (questions ordered) refl ((refl, (refl, (refl, refl))), ((refl, (refl, (refl, refl))), ((refl, (refl, (refl, refl))), tt))))
      (frames_of beginning arrived (
        inl refl,
        (
          inl refl,
          (
            inl refl,
            (
              inl refl,
              (
                inl refl,
                (
                  inl refl,
                  (
                    inl refl,
                    (
                      inl refl,
                      (
                        inl refl,
                        (inl refl, (inl refl, (inl refl, tt))),
                      ),
                    ),
                  ),
                ),
              ),
            ),
          ),
        ),
      ));
  levels = round_levels left_reference refl;
}

-- what the level files of the example read as
pub reads : (t : List ℤ) → table_ok t ≡ true → read_table (table_text t) ≡ some t
reads t ok = (reads_table (table_text t) t).1 (refl, ok)

reads_none : (o : Option (List ℤ)) → read_table [] ≡ o → read_table [] ≡ none
unfolding table_text
reads_none none e = e
reads_none (some t) e = absurd (let (q, ok) = (reads_table [] t).0 e in omega (arith, ap length q))

pub replies-file : (s : Session) (f : List ℕ) (l : List Event) (o : Option (List ℤ)) → read_table f ≡ o →
    replies s (level_file f ∷ l) ≡ (loaded s o).reply ∷ replies (loaded s o).session l
unfolding replies next load_levels
replies-file s f l o e = ap (λ o. (loaded s o).reply ∷ replies (loaded s o).session l) e

-- the retried session after its first frame, and after its third event
first : Session
first = next left_odd (sent (stepping 1) 40)

third : Session
third = next (with_table first fine) (sent (stepping 1) 40)

pub table_instance : TableInstance
unfolding beginning stepping lent replies coarse fine holding odd_holding beginning_on_table left_holding left_odd ordered_loads arrived_loads has_begun fresh exchange with_table loaded load_levels passes of_round number_in round_of questions next takes_table is_bytes table_ok copy_after first third
table_instance = record {
  loads = rw (reads coarse refl);
  accepted_reference = refl;
  accepted_retried = refl;
  replied = ap (λ r. Accepted 2 (pos 1500) ∷ r) (replies-file first (table_text fine) (drop 2 arrived_loads) (some fine) (reads fine refl)
      ∙ ap (λ r. state_reply ∷ Accepted 2 (pos 1500) ∷ r) (replies-file third [] (drop 4 arrived_loads) none (reads_none (read_table []) refl)));
  both = steps_exactly_once holding odd_holding beginning_on_table (lent 40) (lent 40) ordered_loads arrived_loads refl refl refl refl (λ t. refl)
      (in_order beginning_on_table (questions ordered_loads) refl
      ((refl, (refl, (refl, refl))), ((refl, (refl, (refl, refl))), ((refl, (refl, (refl, refl))), tt))))
      (frames_of beginning_on_table arrived_loads (inl refl, (tt, (inl refl, (tt, (inl refl, (inl refl, tt)))))));
  levels = round_levels left_holding refl;
}

pub tables : Tables
unfolding beginning stepping lent coarse fine flat holding beginning_on_table left_holding kept_in kept has_begun fresh exchange with_table
tables = record {
  none_held = refl;
  bad_held = refl;
  other_top = refl;
  begun = (refl, refl, refl);
  by_copy = refl;
  even = (refl, refl);
}

pub refusals : Refusals
unfolding beginning stepping asking lent left_reference spaced has_begun fresh exchange reply_to reply_later
refusals = record {
  header = refl;
  kind = refl;
  reserved = refl;
  length = refl;
  rule = refl;
  window = refl;
  setting = refl;
  held = refl;
  not_begun = (refl, refl);
  kinds = (refl, refl, refl);
  reserved_S = refl;
  reserved_Q = refl;
}

pub fields : Fields
unfolding beginning stepping lent left_heights fresh exchange number_in
fields = record { number = refl; bytes = refl; heights = refl }
