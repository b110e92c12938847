-- Mixed frame m of a score on a voice: the sum, over the entries that have started by then, of each entry's note frame, held within 16 bits
-- once. All entries share the voice and the output rate.
use Rattle.std.specs.Prelude.{ℕ, ◌-◌, cond, ◌||◌, List, [], ◌∷◌, map, leb, ltb, ◌+ℤ◌}
use Rattle.sheet.specs.Voice.{Voice}
use Rattle.body_read.specs.Sides.{Sides}
use Rattle.note_frame.specs.Frame.{silent, frame}
use Rattle.note_frame.specs.declared.chain.Frame.{Frame}
use Rattle.note_frame.specs.declared.playing.Key.TheVariants.{Released}
use Rattle.note_frame.specs.declared.playing.Playing.{Playing}
use Rattle.ensemble_score.specs.declared.Entry.{Entry}
use Rattle.ensemble_sums.specs.Sums.{held_to16}

-- the note of an entry, released at its key-up frame, which like its own frames is counted from its start
abbrev pub entry_note : ℕ → Entry → Playing
entry_note rate e = record { octave = e.octave; velocity = e.velocity; step = e.step; rate = rate; key = Released (e.key_up - e.start) }

-- what an entry adds to mixed frame m: from its start on frame m - start of its note, before it nothing
unfoldable pub entry_frame : Voice → Sides → ℕ → ℕ → Entry → Frame
entry_frame v s rate m e = cond (leb e.start m) (frame v s (entry_note rate e) (m - e.start)) silent

-- two frames at once: the sums of their sides, and sounding if one of them is
abbrev pub together : Frame → Frame → Frame
together f g = record { left = f.left +ℤ g.left; right = f.right +ℤ g.right; sounds = f.sounds || g.sounds }

-- all of them at once
unfoldable pub all_together : List Frame → Frame
all_together [] = silent
all_together (f ∷ fs) = together f (all_together fs)

-- a frame whose sides are held
abbrev pub held_frame : Frame → Frame
held_frame f = record { left = held_to16 f.left; right = held_to16 f.right; sounds = f.sounds }

-- mixed frame m: all entries at once, held once after summing; from 4,294,967,295 on all is silent
unfoldable pub mixed_frame : Voice → Sides → ℕ → List Entry → ℕ → Frame
mixed_frame v s rate score m = cond (ltb m 4294967295) (held_frame (all_together (map (entry_frame v s rate m) score))) silent
