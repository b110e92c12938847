-- A note that is handed to C and handed in again is the same note.
-- Assumes nothing.
use mathlib.Core.Path.{◌≡◌, refl}
use Rattle.note_frame.specs.declared.playing.Key.{Key}
use Rattle.note_frame.specs.declared.playing.Key.TheVariants.{Held, Released}
use Rattle.note.specs.declared.Note.{Note}
use Rattle.svx.specs.Notes.{key_handed_in, released_of, key_up_frame, note_of, shape_of}

key_back : (key : Key) → key_handed_in (released_of key) (key_up_frame key) ≡ key
key_back Held = refl
key_back (Released u) = refl

pub note_back : (n : Note) → note_of (shape_of n) ≡ n
note_back n = rw (key_back n.playing.key)
