-- Two benches that start the same rule at different windows (document 02, Paper 13): their lists of windows are one list, from two starts.
use Rattle.std.specs.Prelude.{true, List, [], ◌∷◌, map, ◌≡◌, ℕ, ◌<◌, set}
use Rattle.universal_cycle.specs.TwoStarts.{moved}
use Rattle.frames.specs.Answer.{accepted}
use Rattle.frames.specs.Question.{kind_in, letter_b, length_in, rule_in}
use Rattle.stepper.specs.declared.session.Session.{Session}
use Rattle.stepper.specs.Exchange.{exchange}
use Rattle.stepper.specs.ExactlyOnce.{round_of, start_of, window_after, numbers_after}
use Rattle.stepper.specs.Example.{beginning}

-- W_1 … W_a(n) of a begin frame: what its session holds after its steps, in order (`firsts_reference` of `ExactlyOnce`)
unfoldable pub windows_of : List ℕ → List (List ℕ)
unfolding round_of window_after numbers_after
windows_of g = map (window_after g) (numbers_after 0 (round_of g))

-- exactly one number of steps below a(n) leads from the start of g to that of h, and the list of h is that of g with so many moved from its
-- front to its end
pub record LinedUp (g h : List ℕ) : Type 0 where
  pub steps : ℕ
  pub below : steps < round_of g
  pub leads : window_after g steps ≡ start_of h
  pub only : (k : ℕ) → k < round_of g → window_after g k ≡ start_of h → k ≡ steps
  pub lists : windows_of h ≡ moved steps (windows_of g)

-- Two begin frames with the same n and the same rule, each accepted by a session, whatever that was; all else in them may differ.
abbrev pub RoundsLineUp : Type 0
RoundsLineUp =
    (S T : Session) (g h bufferS bufferT : List ℕ) → kind_in g ≡ letter_b → kind_in h ≡ letter_b →
    accepted (exchange S g bufferS).0.reply ≡ true → accepted (exchange T h bufferT).0.reply ≡ true →
    length_in g ≡ length_in h → rule_in g ≡ rule_in h → LinedUp g h

-- document 01's round of two, and the one that starts at 2,1 with another top
unfoldable pub beginning_at21 : List ℕ
unfolding beginning
beginning_at21 = set (set beginning 24 2) 16 0

pub record LinedUpInstance : Type 0 where
  pub lined : LinedUp beginning beginning_at21
  pub two_steps : lined.steps ≡ 2
  pub first : windows_of beginning ≡ (1 ∷ 2 ∷ []) ∷ (2 ∷ 1 ∷ []) ∷ (1 ∷ 1 ∷ []) ∷ []
  pub second : windows_of beginning_at21 ≡ (1 ∷ 1 ∷ []) ∷ (1 ∷ 2 ∷ []) ∷ (2 ∷ 1 ∷ []) ∷ []
