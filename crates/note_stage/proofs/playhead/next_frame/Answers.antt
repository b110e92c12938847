-- `note_stage::playhead::next_frame` meets its contract.
use mathlib.Core.Path.{refl}
use Rattle.note_stage.proofs.PlayheadLaws.{stands_more}
use Rattle.note_stage.proofs.playhead.next_frame.Goals as goal

pub returns : goal.returns
returns c = (stands_more c.requires.1 c.requires.0 _ c.requires.2 c.tick.ensures, refl)
