-- The part of a buffer that holds the samples of a side.
use Rattle.std.specs.Prelude.{ℕ, true, cond, List, eqb, leb, None, Option, Some}
use Rattle.header.specs.Octaves.{hi, total_samples}
use Rattle.header.specs.declared.voice_header.VoiceHeader.{VoiceHeader}
use Rattle.sheet.specs.Voice.{Voice, is_stereo}
use Rattle.sheet.specs.Judge.{judged, if_sound}
use Rattle.sheet.specs.Read.{read_sheet}
use Rattle.octaves.specs.declared.part.Part.{Part}
use Rattle.octaves.specs.declared.side.Side.{Side}
use Rattle.octaves.specs.declared.side.Side.TheVariants.{Left, Right}

-- the left or the right one of two
abbrev pub of_side : {A : Type 0} → Side → A → A → A
of_side Left left right = left
of_side Right left right = right

-- the first total places, or all if hi = 0; none where the buffer is shorter
abbrev pub front_part : VoiceHeader → ℕ → Option Part
front_part h places = cond (eqb (hi h) 0) (Some (record { start = 0; length = places })) (cond (leb (total_samples h) places) (Some (record { start = 0; length = total_samples h })) None)

-- a side of a voice: one channel has its samples at left, by any CHAN, and no right side
abbrev pub voice_side : Voice → Side → ℕ → Option Part
voice_side v side places = cond (of_side side true (is_stereo v.channel)) (front_part v.header places) None

-- a side of a sheet: a sheet that is refused has none
abbrev pub side_part : List ℕ → Side → ℕ → Option Part
side_part sheet side places = if_sound (judged sheet) (λ refusal. None) (voice_side (read_sheet sheet) side places)
