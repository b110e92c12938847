-- `note_envelope::cursor_at` meets its contract: a cursor at the front of the part, moved to the time.
use mir.Facts.{to_z-of_z}
use Rattle.note_envelope.proofs.CursorLaws.{begun}
use Rattle.note_envelope.proofs.cursor_at.Goals as goal

pub returns : goal.returns
returns c = (begun _ _ _ _ _ _ _ (rw (to_z-of_z c.ranges.start) at c.seek.ensures), c.seek.ensures.till)
