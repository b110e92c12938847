-- Notes as they cross to C: whether one is released, and the key-up's frame, which is 0 while it is held.
use Rattle.std.specs.Prelude.{ℕ, Bool, true, false, cond, Err, Ok}
use Rattle.note_frame.specs.declared.playing.Key.{Key}
use Rattle.note_frame.specs.declared.playing.Key.TheVariants.{Held, Released}
use Rattle.note.specs.declared.Note.{Note}
use Rattle.svx.specs.declared.notes.SvxNote.{SvxNote}
use Rattle.refusal.specs.Outcome.{Outcome}

-- released at a frame, or held: then the frame is ignored
abbrev pub key_handed_in : Bool → ℕ → Key
key_handed_in released frame = cond released (Released frame) Held

-- the note that was handed in
abbrev pub note_of : SvxNote → Note
note_of n = record {
  playing = record { octave = n.octave; velocity = n.velocity; step = n.step; rate = n.rate; key = key_handed_in n.released n.key_up };
  frames = n.frames;
}

-- that it is released
abbrev pub released_of : Key → Bool
released_of Held = false
released_of (Released u) = true

-- and where; 0 while it is held
abbrev pub key_up_frame : Key → ℕ
key_up_frame Held = 0
key_up_frame (Released u) = u

-- the note that is handed back
abbrev pub shape_of : Note → SvxNote
shape_of n = record {
  octave = n.playing.octave;
  velocity = n.playing.velocity;
  step = n.playing.step;
  rate = n.playing.rate;
  frames = n.frames;
  released = released_of n.playing.key;
  key_up = key_up_frame n.playing.key;
}

-- how many frames weren't over; 0 where refused
abbrev pub sounding_of : Outcome ℕ → ℕ
sounding_of (Ok count) = count
sounding_of (Err refusal) = 0
