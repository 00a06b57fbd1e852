-- The second version by example: its instance of demand 3 and its refusals, by computation. Assumes nothing.
use mathlib.Core.Logic.{inl, inr}
use mathlib.Core.List.{◌∷◌}
use mathlib.Core.Option.{some}
use mathlib.Core.Path.{◌≡◌, refl, ap}
use Prim.Native.Nat.{ℕ}
use lib.ListN.{drop, take}
use Rattle.levels.specs.Table.{table_ok}
use Rattle.frames.specs.Answer.{state_reply}
use Rattle.frames.specs.Fields.{is_bytes}
use Rattle.frames.specs.Question.{is_second, number_in, takes_table}
use Rattle.level_files.specs.LevelFile.{table_text}
use Rattle.stepper.specs.Exchange.{has_begun, fresh, exchange, with_table, loaded}
use Rattle.stepper.specs.ExactlyOnce.{passes, of_round, round_of, count_of, questions, arrivals, next, copy_after, BeginAgain}
use Rattle.stepper.specs.Example.{beginning, stepping, asking, lent, replies, coarse, fine, flat, holding, beginning_on_table, kept_in}
use Rattle.stepper.specs.RoundNumbers.{second, beginning_second, in_force_already, ordered_second, arrived_second, SecondInstance}
use Rattle.stepper.specs.RoundNumbers.{answer_of, reply_in, reply_stepped, SecondRefusals}
use Rattle.stepper.proofs.ExactlyOnce.{steps_exactly_once}
use Rattle.stepper.proofs.Worked.{in_order, frames_of, reads, replies-file}

-- the begin frame again, where no step stands before it
again : (i m : ℕ) → count_of beginning_second (arrivals (take i arrived_second)) ≡ 0 →
    BeginAgain beginning_second (take i arrived_second) (record { frame = beginning_second; buffer = lent m })
unfolding beginning second beginning_on_table beginning_second is_second
again i m e = record { second = refl; same = refl; unstepped = e }

pub second_instance : SecondInstance
unfolding beginning stepping lent replies coarse fine flat holding beginning_on_table kept_in second beginning_second in_force_already ordered_second arrived_second has_begun fresh exchange with_table loaded passes of_round number_in round_of count_of questions arrivals next takes_table is_bytes table_ok copy_after
second_instance = record {
  accepted_reference = refl;
  accepted_retried = refl;
  copies = (refl, refl);
  replied = ap (λ r. state_reply ∷ r) (replies-file in_force_already (table_text fine) (drop 2 arrived_second) (some fine) (reads fine refl));
  count = refl;
  both = steps_exactly_once holding in_force_already beginning_second (lent 40) (lent 40) ordered_second arrived_second refl refl refl refl (λ t. refl)
      (in_order beginning_second (questions ordered_second) refl
      ((refl, (refl, (refl, refl))), ((refl, (refl, (refl, refl))), ((refl, (refl, (refl, refl))), tt))))
      (frames_of beginning_second arrived_second (
        inr (again 0 40 refl),
        (
          tt,
          (
            inr (again 2 41 refl),
            (
              inr (again 3 39 refl),
              (inl refl, (inl refl, (inl refl, (inl refl, (inl refl, tt))))),
            ),
          ),
        ),
      ));
}

pub second_refusals : SecondRefusals
unfolding beginning stepping asking lent coarse flat beginning_on_table kept_in second beginning_second has_begun fresh exchange answer_of reply_in reply_stepped
second_refusals = record {
  begun = refl;
  asked = refl;
  kind = refl;
  length = refl;
  header = refl;
  no_number = (refl, refl);
  number = (refl, refl, refl);
  begun_as = refl;
  first = refl;
  not_begun = refl;
  other_version = (refl, refl, refl);
  other_round = refl;
  numbered = refl;
  again = refl;
  taken = (refl, refl);
  behind = (refl, refl, refl, refl);
  free = (refl, refl, refl);
  by_copy = refl;
  by_held = refl;
  bad_copy = refl;
}
