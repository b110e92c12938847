-- What each call makes of a note.
use Rattle.std.specs.Prelude.{ℕ, ◌+◌, min}
use Rattle.note_frame.specs.Frame.{with_key}
use Rattle.note_frame.specs.declared.playing.Key.{Key}
use Rattle.note_frame.specs.declared.playing.Key.TheVariants.{Held, Released}
use Rattle.note.specs.declared.Note.{Note}

-- a fresh note: no frames filled, held
abbrev pub start_of : ℕ → ℕ → ℕ → ℕ → Note
start_of octave step rate velocity = record { playing = record { octave = octave; velocity = velocity; step = step; rate = rate; key = Held }; frames = 0 }

-- only the first key-up counts
abbrev pub key_after : Key → ℕ → Key
key_after Held frame = Released frame
key_after (Released u) frame = Released u

-- a key-up is at the frames filled
abbrev pub key_up_of : Note → Note
key_up_of n = record { playing = with_key n.playing (key_after n.playing.key n.frames); frames = n.frames }

-- so many frames more, up to 4,294,967,295
abbrev pub advance_of : Note → ℕ → Note
advance_of n frames = record { playing = n.playing; frames = min (n.frames + frames) 4294967295 }
