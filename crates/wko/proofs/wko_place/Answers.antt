-- `wko_place`: the place of the slice's window, given. Assumes nothing.
use mathlib.Core.Path.{◌≡◌, ap, ◌∙◌}
use Rattle.ranking.specs.Answers.{placed}
use Rattle.wko.specs.Calls.{number_given, place_call}
use Rattle.wko.proofs.Cases.{place_slice}
use Rattle.wko.proofs.wko_place.Goals as goal

pub returns : goal.returns
unfolding place_call
returns c = let a = c.args in
    let own : c.place.result ≡ placed a.n a.window.now = c.place.ensures ∙ rw c.load-w.ensures (place_slice a.n a.window.now) in
    c.give_number.ensures ∙ ap (λ p. number_given p a.out.now) own
