-- What holds of every sheet and of all that is printed for it; proved in proofs/Printouts.
use mathlib.Core.List.{List, [], ◌∷◌, ◌++◌, Memᴰ}
use Rattle.std.specs.Prelude.{◌↔◌, ◌≡◌, ℕ, ◌≤◌, length, take, Ok}
use Rattle.std.proofs.Math.Option.{some}
use Rattle.weak_orders.specs.Window.{iter}
use Rattle.ranking.specs.Counts.{a}
use Rattle.successors.specs.Rules.{rule_of, WeakOrder, step}
use Rattle.universal_cycle.specs.Round.{Tour}
use Rattle.universal_cycle.specs.TwoStarts.{Between}
use Rattle.levels.specs.Levels.{Levels}
use Rattle.sheets.specs.declared.judge.Round.{Round}
use Rattle.printing.specs.declared.Printing.{Printing}
use Rattle.sheets.specs.Sheet.{RawSheet, IsText, parse}
use Rattle.sheets.specs.Judgement.{judged_text}
use Rattle.printing.specs.Printing.{Printed, opening_text, steps_of, printed_text, started, below, page_in}

-- one page after another, in buffers of these lengths
unfoldable pub pages : List ℕ → Printing → Printed
pages [] p = (p, [])
pages (room ∷ rooms) p = let (q, text) = page_in room p in below text (pages rooms q)

pub record Claims : Type 0 where
  -- a text reads as a sheet just if it is that sheet's text
  pub reads : (s : List ℕ) (x : RawSheet) → (parse s ≡ some x) ↔ IsText x s
  -- the opening and the pages, once the last line is printed, are the whole of what is to be printed, however the pages are cut
  pub prints : (s : List ℕ) (rooms : List ℕ) → let j = judged_text s in let (q, text) = pages rooms (started j) in
      q.done ≡ q.last → opening_text j ++ text ≡ printed_text s
  -- in buffers of 128 bytes or more that takes no more pages than there are lines
  pub ends : (s : List ℕ) (rooms : List ℕ) → ((room : ℕ) → Memᴰ room rooms → 128 ≤ room) → let j = judged_text s in
      steps_of j ≤ length rooms → let (q, text) = pages rooms (started j) in q.done ≡ q.last
  -- the windows of an accepted sheet's lines are all the weak orders of n, each once, and at last the start
  pub each : (s : List ℕ) (r : Round) → judged_text s ≡ Ok r →
      Tour (WeakOrder r.n r.rule) (step (rule_of r.rule)) (a r.n) (take r.n r.window)
  -- and in each of them two places have equal levels just if their symbols are equal, the smaller symbol the higher level
  pub levels : (s : List ℕ) (r : Round) → judged_text s ≡ Ok r → (k : ℕ) →
      Levels r.rule r.setting (iter (step (rule_of r.rule)) k (take r.n r.window))
  -- two accepted sheets with the same n and rule print one list of windows, from two starts (document 02, Paper 13)
  pub starts : (s t : List ℕ) (r q : Round) → judged_text s ≡ Ok r → judged_text t ≡ Ok q → r.n ≡ q.n → r.rule ≡ q.rule →
      Between (step (rule_of r.rule)) (a r.n) (take r.n r.window) (take q.n q.window)
