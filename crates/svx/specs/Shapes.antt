-- Answers as structs that cross to C.
use Rattle.std.specs.Prelude.{ℕ, true, false, cond, eqb, ℤ, pos, Err, Float, None, Ok, Option, Some}
use Rattle.std.specs.Float.{binary64}
use Rattle.std.specs.Float.Ieee.{of_int}
use Rattle.header.specs.declared.voice_header.VoiceHeader.{VoiceHeader}
use Rattle.octaves.specs.declared.part.Part.{Part}
use Rattle.small_chunks.specs.Pan.{pan_weights}
use Rattle.svx.specs.declared.leaves.SvxFrequency.{SvxFrequency}
use Rattle.svx.specs.declared.leaves.SvxPan.{SvxPan}
use Rattle.svx.specs.declared.leaves.SvxPeak.{SvxPeak}
use Rattle.svx.specs.declared.parts.SvxPart.{SvxPart}
use Rattle.svx.specs.declared.sheet_walk.SvxRecord.{SvxRecord}
use Rattle.samples.specs.declared.loudness.Loudest.{Loudest}
use Rattle.sheet.specs.declared.record.Record.{Record}
use Rattle.refusal.specs.Refusal.{number_of}
use Rattle.refusal.specs.Outcome.{Outcome}

-- a step of the sheet: 0 a record, 1 the end, 2 refused by 15, 3 refused by 16
abbrev pub record_of : Outcome (Option Record) → SvxRecord
record_of (Ok (Some r)) = record { step = 0; kind = r.kind; start = r.start; next = r.next }
record_of (Ok None) = record { step = 1; kind = 0; start = 0; next = 0 }
record_of (Err refusal) = record { step = cond (eqb (number_of refusal) 15) 2 3; kind = 0; start = 0; next = 0 }

-- a frequency, 0 where it isn't known
abbrev pub frequency_of : Option Float → SvxFrequency
frequency_of (Some hertz) = record { known = true; hertz = hertz }
frequency_of None = record { known = false; hertz = of_int binary64 (pos 0) }

-- the weights of a position
abbrev pub weights_at : ℤ → SvxPan
weights_at position = record { left = (pan_weights (record { position = position })).left; right = (pan_weights (record { position = position })).right }

-- a part
abbrev pub part_shape : Option Part → SvxPart
part_shape (Some it) = record { there = true; start = it.start; length = it.length }
part_shape None = record { there = false; start = 0; length = 0 }

-- a length as a part from 0 on
abbrev pub count_of : Option ℕ → SvxPart
count_of (Some n) = record { there = true; start = 0; length = n }
count_of None = record { there = false; start = 0; length = 0 }

-- a header of which the octaves' lengths alone matter
abbrev pub octave_header : ℕ → ℕ → ℕ → VoiceHeader
octave_header one_shot repeat octaves = record {
  one_shot_hi_samples = one_shot;
  repeat_hi_samples = repeat;
  samples_per_hi_cycle = 0;
  samples_per_sec = 0;
  ct_octave = octaves;
  compression_byte = 0;
  volume = 0;
}

-- a peak, zeros where there are no samples
abbrev pub peak_shape : Option Loudest → SvxPeak
peak_shape (Some it) = record { found = true; magnitude = it.magnitude; place = it.place }
peak_shape None = record { found = false; magnitude = 0; place = 0 }
