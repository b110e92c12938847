-- The rules that turn a fill back, in the order in which they are judged: the voice's own (10, 13, 18), the sequence's (21 to 23), the
-- octave's (24), the places' (25) and the note's (31 to 34, and then 44). 15 to 17, the sheet's own, come before them.
use Rattle.std.specs.Prelude.{ℕ, ◌%◌, ◌^◌, Bool, false, not, ◌&&◌, ◌||◌, List, [], ◌∷◌, ◌++◌, eqb, ltb, length, None, Option, Some}
use Rattle.refusal.specs.Rules.{Rule, rule}
use Rattle.header.specs.Octaves.{hi, octave_there}
use Rattle.header.specs.declared.voice_header.VoiceHeader.{VoiceHeader}
use Rattle.small_chunks.specs.declared.sequence.Fade.{Fade}
use Rattle.small_chunks.specs.declared.sequence.SeqnSegment.{SeqnSegment}
use Rattle.sheet.specs.Voice.{Voice}
use Rattle.note_path.specs.Path.{segments_of, joined_length, all_valid}
use Rattle.note_frame.specs.declared.playing.Key.{Key}
use Rattle.note_frame.specs.declared.playing.Key.TheVariants.{Held, Released}
use Rattle.note_frame.specs.declared.playing.Playing.{Playing}
use Rattle.voice_rules.specs.Rules.{voice_rules}
use Rattle.refusal.specs.declared.Refusal.TheVariants.{Segment, SequenceOneShot, FadeSegment, SequenceLength, OddPlaces, NoOctave, Step, Rate, KeyUp, Velocity}

-- a sequence beside a one-shot part
abbrev pub beside_one_shot : Option (List SeqnSegment) → ℕ → Bool
beside_one_shot None one_shot = false
beside_one_shot (Some segments) one_shot = not (eqb one_shot 0)

-- a fade whose segment, counted from 0, isn't among so many
abbrev pub fade_misses : Option Fade → ℕ → Bool
fade_misses None segments = false
fade_misses (Some f) segments = not (ltb f.segment segments)

-- a key-up later than the frames filled
abbrev pub key_up_ahead : Key → ℕ → Bool
key_up_ahead Held frames = false
key_up_ahead (Released u) frames = ltb frames u

-- 21 to 23, of the sequence and its fade
abbrev pub sequence_rules : Voice → List Rule
sequence_rules v =
    rule Segment (not (all_valid (segments_of v.sequence) (hi v.header)))
    ∷ rule SequenceOneShot (beside_one_shot v.sequence v.header.one_shot_hi_samples)
    ∷ rule FadeSegment (fade_misses v.fade (length (segments_of v.sequence)))
    ∷ []

-- 24, of the sequence in octave k, where that is there
abbrev pub octave_rules : Voice → ℕ → List Rule
octave_rules v k = rule SequenceLength (octave_there v.header k && ltb 4294967295 (joined_length (2 ^ k) (segments_of v.sequence))) ∷ []

-- 25, of the buffer's places
abbrev pub place_rules : ℕ → List Rule
place_rules places = rule OddPlaces (eqb (places % 2) 1) ∷ []

-- 32 and 33, of a step and an output rate
abbrev pub speed_rules : ℕ → ℕ → List Rule
speed_rules s r =
    rule Step (eqb s 0 || ltb 16777216 s)
    ∷ rule Rate (eqb r 0 || ltb 192000 r)
    ∷ []

-- 44, of a velocity
abbrev pub velocity_rules : ℕ → List Rule
velocity_rules v = rule Velocity (eqb v 0 || ltb 127 v) ∷ []

-- 31 to 34 and 44, of a note with so many frames filled
abbrev pub note_rules : VoiceHeader → Playing → ℕ → List Rule
note_rules h n frames =
    rule NoOctave (not (octave_there h n.octave))
    ∷ speed_rules n.step n.rate
    ++ rule KeyUp (key_up_ahead n.key frames)
    ∷ velocity_rules n.velocity

-- all of them: a voice whose sides have so many samples, a note with so many frames filled, a buffer of so many places
unfoldable pub fill_rules : Voice → ℕ → ℕ → Playing → ℕ → ℕ → List Rule
fill_rules v left right n frames places =
    voice_rules v left right ++ sequence_rules v ++ octave_rules v n.octave ++ place_rules places ++ note_rules v.header n frames
