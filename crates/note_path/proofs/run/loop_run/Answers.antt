-- `note_path::run::loop_run` meets its contract: the run is the first turn, none, or a later turn, as the step lies.
use mathlib.Core.Path.{refl}
use Rattle.note_path.proofs.TurnLaws.{turn_first, turn_none, turn_later}
use Rattle.note_path.proofs.run.loop_run.Goals as goal

pub returns-then-q-octave : goal.returns-then-q-octave
returns-then-q-octave c = turn_first _ _ _ c.requires.0 c.requires.1 c.if-q-octave.true

pub returns-then-p-eq0 : goal.returns-then-p-eq0
returns-then-p-eq0 c =
    turn_none _ _ _ c.requires.0 c.requires.1 c.if-q-octave.false c.if-p-eq0.true

pub returns : goal.returns
returns c =
    turn_later _ _ _ c.requires.0 c.requires.1 _ refl c.if-q-octave.false c.if-p-eq0.false
