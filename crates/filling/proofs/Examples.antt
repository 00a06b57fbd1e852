-- The examples of specs/Examples.antt. Assumes nothing.
use mathlib.Core.Path.{refl}
use Rattle.filling.specs.Answers.{judged_pattern, fill_answer}
use Rattle.filling.specs.Earliest.{earliest}
use Rattle.filling.specs.Examples.{service, patterns, Examples}
use Rattle.filling.specs.Pattern.{fillable}
use Rattle.filling.proofs.Laws.{earliest_laws}

pub examples : Examples
unfolding judged_pattern fill_answer earliest fillable patterns
examples = record {
  service-accepted = refl;
  service_first = earliest_laws.first 5 service refl;
  service_filled = refl;
  zeros_first = refl;
  between = refl;
  to_spare = refl;
  alone = refl;
  all_open = refl;
  zero_missing = refl;
  two_missing = refl;
  whole = refl;
  gap = refl;
  byte_n = refl;
  byte_254 = refl;
  shorter = refl;
  longer = refl;
  none_of_0 = refl;
  none_of_17 = refl;
  unfillable = refl;
}
