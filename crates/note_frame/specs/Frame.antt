-- Frame p of a note on a voice, whole: the step and the place on the path, the level, the value chain, and the two sides. Fills are
-- measured by this definition.
use Rattle.std.specs.Prelude.{ℕ, ◌-◌, ◌*◌, ◌/◌, ◌^◌, min, true, false, cond, List, [], ◌∷◌, leb, ltb, ℤ, pos, ◌*ℤ◌, length, take, get_or, None, Option, Some}
use Rattle.small_chunks.specs.Pan.{held_to_unity}
use Rattle.small_chunks.specs.declared.points.EgPoint.{EgPoint}
use Rattle.small_chunks.specs.declared.sequence.Fade.{Fade}
use Rattle.small_chunks.specs.declared.sequence.SeqnSegment.{SeqnSegment}
use Rattle.envelope.specs.Level.{scaled_by}
use Rattle.envelope.specs.Envelope.{level_at, total_duration}
use Rattle.sheet.specs.Voice.{Voice, is_stereo}
use Rattle.sheet_layout.specs.Joined.{joined}
use Rattle.body_read.specs.Sides.{Sides}
use Rattle.note_path.specs.Path.{path_of, joined_length}
use Rattle.note_frame.specs.Shares.{shares_of}
use Rattle.note_frame.specs.declared.chain.Frame.{Frame}
use Rattle.note_frame.specs.declared.playing.Key.{Key}
use Rattle.note_frame.specs.declared.playing.Key.TheVariants.{Held, Released}
use Rattle.note_frame.specs.declared.playing.Playing.{Playing}
use Rattle.note_frame.specs.declared.shares.Shares.{Shares}

-- the same note with another key
abbrev pub with_key : Playing → Key → Playing
with_key n key = record { octave = n.octave; velocity = n.velocity; step = n.step; rate = n.rate; key = key }

-- ---- where frame p is

-- q, the step of frame p: 65,536 is one sample a frame
abbrev pub step_of : ℕ → ℕ → ℕ
step_of step p = p * step / 65536

-- the milliseconds from frame u to frame p
abbrev pub ms_since : ℕ → ℕ → ℕ → ℕ
ms_since rate u p = 1000 * (p - u) / rate

-- ---- the level

-- an attack begins at 0; with no points the level is full
abbrev pub start_level : List EgPoint → ℤ
start_level [] = pos 65536
start_level (p ∷ ps) = pos 0

-- the level of a held note at frame p: all attack points joined
unfoldable pub attack_level : Voice → ℕ → ℕ → ℕ
attack_level v rate p = held_to_unity (level_at (joined v.attacks) (start_level (joined v.attacks)) (ms_since rate 0 p))

-- the level after a key-up at frame u: all release points joined, from the attack's level at u; none once they have ended
unfoldable pub release_level : Voice → ℕ → ℕ → ℕ → Option ℕ
release_level v rate u p =
    cond (leb (total_duration (joined v.releases)) (ms_since rate u p)) None
    (Some (held_to_unity (level_at (joined v.releases) (pos (attack_level v rate u)) (ms_since rate u p))))

-- the level of frame p, or none where the note is over
unfoldable pub level_of : Voice → ℕ → Key → ℕ → Option ℕ
level_of v rate Held p = Some (attack_level v rate p)
level_of v rate (Released u) p = cond (leb u p) (release_level v rate u p) (Some (attack_level v rate p))

-- ---- the value

-- the volume, at most 65,536
abbrev pub volume_of : Voice → ℕ
volume_of v = min v.header.volume 65536

-- from step b on a value falls to nothing at the path's end t
abbrev pub faded_from : ℕ → ℕ → ℕ → ℤ → ℤ
faded_from b t q x = cond (leb b q) (scaled_by x (t - q) (t - b)) x

-- a fade begins where its segment begins on the path, in octave k; without one, or without a sequence, nothing changes
abbrev pub faded_in : Option Fade → Option (List SeqnSegment) → ℕ → ℕ → ℤ → ℤ
faded_in (Some f) (Some segments) k q x = faded_from (joined_length (2 ^ k) (take f.segment segments)) (joined_length (2 ^ k) segments) q x
faded_in (Some f) None k q x = x
faded_in None sequence k q x = x

-- a value of step q in octave k, faded
unfoldable pub faded_at : Voice → ℕ → ℕ → ℤ → ℤ
faded_at v k q x = faded_in v.fade v.sequence k q x

-- the shares of the two sides
abbrev pub share_of : Voice → Shares
share_of v = shares_of v.channel v.pan

-- a value chain: what a side gets at a step of the path, a level, a sample and the side's share
abbrev pub Chain : Type 0
Chain = ℕ → ℕ → ℤ → ℕ → ℤ

-- the chain of a voice in octave k, struck at a velocity: sample × 256; × level / 65,536; × volume / 65,536; × velocity / 127; the fade;
-- × share / 65,536. Each step cuts toward zero
unfoldable pub value : Voice → ℕ → ℕ → Chain
value v k velocity q level sample share =
    scaled_by (faded_at v k q (scaled_by (scaled_by (scaled_by (sample *ℤ pos 256) level 65536) (volume_of v) 65536) velocity 127)) share 65536

-- ---- the frame

-- over
abbrev pub silent : Frame
silent = record { left = pos 0; right = pos 0; sounds = false }

-- what the right side plays: of two channels its own samples, else the left ones
abbrev pub right_samples : Voice → Sides → List ℤ
right_samples v s = cond (is_stereo v.channel) s.right s.left

-- the frame of step q by a chain, whose sample lies at a place, at a level; without either it is over
unfoldable pub frame_at : Voice → Sides → Chain → ℕ → Option ℕ → Option ℕ → Frame
frame_at v s chain q (Some i) (Some level) = record {
  left = chain q level (get_or s.left i (pos 0)) (share_of v).left;
  right = chain q level (get_or (right_samples v s) i (pos 0)) (share_of v).right;
  sounds = true;
}
frame_at v s chain q (Some i) None = silent
frame_at v s chain q None level = silent

-- frame p of a note by a chain: past the path, after the release, and from 4,294,967,295 on it is over
unfoldable pub frame_by : Voice → Sides → Chain → Playing → ℕ → Frame
frame_by v s chain n p =
    cond (ltb p 4294967295)
    (frame_at v s chain (step_of n.step p) (path_of v.sequence v.header (length s.left) n.octave (step_of n.step p)) (level_of v n.rate n.key p))
    silent

-- frame p of a note
unfoldable pub frame : Voice → Sides → Playing → ℕ → Frame
frame v s n p = frame_by v s (value v n.octave n.velocity) n p
