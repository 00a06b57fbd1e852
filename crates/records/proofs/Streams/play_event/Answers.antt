-- The letter is the first byte of the record.
use Rattle.std.proofs.Common.{sym, inl, inr, rules}
use Rattle.records.specs.Runs.{IsFrame, IsFile}
use Rattle.records.proofs.Running.{one_of, frame_letter, file_letter, letter_plays}
use Rattle.records.proofs.Streams.play_event.Goals as goal

pub returns-in-70-clause-plays : goal.returns-in-70-clause-plays
returns-in-70-clause-plays g c =
    rw (sym c.read_part.ensures.output)
    (letter_plays IsFrame 70 _ _ c.read_part.new.part _ _ _ _ _
    (one_of _ _ (search rules) c.in-70.is)
    frame_letter
    (λ e h. inl h)
    (c.read_part.ensures.taken (search rules))
    c.play_frame.ensures.plays)

pub returns-in-76-clause-plays : goal.returns-in-76-clause-plays
returns-in-76-clause-plays g c =
    rw (sym c.read_part.ensures.output)
    (letter_plays IsFile 76 _ _ c.read_part.new.part _ _ _ _ _
    (one_of _ _ (search rules) c.in-76.is)
    file_letter
    (λ e h. inr h)
    (c.read_part.ensures.taken (search rules))
    c.play_file.ensures.plays)
