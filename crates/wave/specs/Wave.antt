-- An octave of a voice as a WAVE file: octave_wave, and octave_wave_of for a sheet.
use Rattle.std.specs.Prelude.{ℕ, Bool, cond, not, List, [], ◌∷◌, ◌++◌, map, eqb, ltb, ℤ, pos, nat_abs, ◌+ℤ◌, length, Err}
use Rattle.laws.specs.Turns.{by_turns}
use Rattle.refusal.specs.Rules.{Rule, rule, first_holding, unless_refused}
use Rattle.header.specs.Octaves.{octave_there}
use Rattle.header.specs.declared.voice_header.VoiceHeader.{VoiceHeader}
use Rattle.body_read.specs.Sides.{Sides}
use Rattle.sheet.specs.Judge.{judged, if_sound}
use Rattle.sheet.specs.Read.{read_sheet}
use Rattle.sheet.specs.Voice.{Voice, is_stereo}
use Rattle.octaves.specs.Octave.{octave_of}
use Rattle.voice_rules.specs.Rules.{voice_rules}
use Rattle.wave.specs.Riff.{riff, riff_chunk, wave_contents}
use Rattle.refusal.specs.declared.Refusal.TheVariants.{NoOctave, VoiceRate, FormLength}
use Rattle.refusal.specs.Outcome.{Outcome}

-- ---- the values

-- a sample as a value: WAVE's 8 bits are unsigned, so it is the sample plus 128
unfoldable pub value_of : ℤ → ℕ
value_of sample = nat_abs (sample +ℤ pos 128)

-- the values of one channel's samples, or of two channels' by turns, left first
unfoldable pub values_of : Bool → List ℤ → List ℤ → List ℕ
values_of stereo left right = cond stereo (by_turns (map value_of left) (map value_of right)) (map value_of left)

-- one channel, or two
abbrev pub channels_of : Bool → ℕ
channels_of stereo = cond stereo 2 1

-- ---- the file

-- what the RIFF of octave k holds
unfoldable pub octave_contents : Voice → Sides → ℕ → List ℕ
octave_contents v s k =
    wave_contents (channels_of (is_stereo v.channel)) v.header.samples_per_sec
    (values_of (is_stereo v.channel) (octave_of v.header k s.left) (octave_of v.header k s.right))

-- octave k as a file
abbrev pub octave_file : Voice → Sides → ℕ → List ℕ
octave_file v s k = riff_chunk riff (octave_contents v s k)

-- ---- what turns it back

-- 31 and 41: there is no octave k, or the voice has no rate
abbrev pub source_rules : VoiceHeader → ℕ → List Rule
source_rules h k =
    rule NoOctave (not (octave_there h k))
    ∷ rule VoiceRate (eqb h.samples_per_sec 0)
    ∷ []

-- 19, of what the RIFF holds: a length past 32 bits
abbrev pub length_rules : List ℕ → List Rule
length_rules contents = rule FormLength (ltb 4294967295 (length contents)) ∷ []

-- what turns octave k back, in the order in which it is judged: the voice's own rules (10, 13, 18), 31, 41, 19. 15 to 17 come before
-- them, and 20, where a buffer is lent, after them
unfoldable pub wave_rules : Voice → Sides → ℕ → List Rule
wave_rules v s k = voice_rules v (length s.left) (length s.right) ++ source_rules v.header k ++ length_rules (octave_contents v s k)

-- the file of octave k of a voice, unless a rule turns it back
unfoldable pub octave_wave : Voice → Sides → ℕ → Outcome (List ℕ)
octave_wave v s k = unless_refused (first_holding (wave_rules v s k)) (octave_file v s k)

-- the same of a sheet and its samples
abbrev pub octave_wave_of : List ℕ → Sides → ℕ → Outcome (List ℕ)
octave_wave_of sheet s k = if_sound (judged sheet) Err (octave_wave (read_sheet sheet) s k)
