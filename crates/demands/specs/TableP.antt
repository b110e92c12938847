-- Table P: examples of the meanings, every row, as one theorem, and beside it two of equal distances. They are proved as `table_p` and
-- `equal_distances`.
use Rattle.std.specs.Prelude.{ℕ, ◌-◌, ◌^◌, List, [], ◌∷◌, ◌≡◌, ℤ, pos, negsuc, length, take, Err, Ok}
use Rattle.header.specs.Octaves.{total}
use Rattle.header.specs.declared.voice_header.VoiceHeader.{VoiceHeader}
use Rattle.small_chunks.specs.declared.points.EgPoint.{EgPoint}
use Rattle.fibonacci.specs.Decode.{fib_samples, fib_channel}
use Rattle.fibonacci.specs.Encode.{fib_bytes}
use Rattle.envelope.specs.Envelope.{level_at}
use Rattle.note_frame.specs.Frame.{value}
use Rattle.voice_read.specs.ReadVoice.{read_voice}
use Rattle.voice_write.specs.WriteVoice.{write_voice}
use Rattle.demands.specs.Demand2.{example_file, example_voice, example_sides}
use Rattle.demands.specs.Reckoning.{fill, reckon}
use Rattle.refusal.specs.declared.Refusal.TheVariants.{ChannelShort, OctaveTotal}

-- an envelope of one point
abbrev pub one_point : ℕ → ℤ → List EgPoint
one_point ms dest = record { duration_ms = ms; dest = dest } ∷ []

-- one sample in the highest of n octaves
abbrev pub one_sample : ℕ → VoiceHeader
one_sample n = record {
  one_shot_hi_samples = 1;
  repeat_hi_samples = 0;
  samples_per_hi_cycle = 0;
  samples_per_sec = 0;
  ct_octave = n;
  compression_byte = 0;
  volume = 0;
}

-- all rows; `negsuc n` is -(n + 1)
pub record TableP : Type 0 where
  -- 00 64 F1: 100, 121, 100
  pub up_and_down : fib_channel (0x00 ∷ 0x64 ∷ 0xF1 ∷ []) ≡ Ok (pos 100 ∷ pos 121 ∷ pos 100 ∷ [])
  -- 00 7F F8: 127, -108, -108
  pub wraps_above : fib_channel (0x00 ∷ 0x7F ∷ 0xF8 ∷ []) ≡ Ok (pos 127 ∷ negsuc 107 ∷ negsuc 107 ∷ [])
  -- 00 80 00: -128, 94, 60
  pub wraps_below : fib_channel (0x00 ∷ 0x80 ∷ 0x00 ∷ []) ≡ Ok (negsuc 127 ∷ pos 94 ∷ pos 60 ∷ [])
  -- byte 00 alone: 12
  pub one_byte : fib_channel (0x00 ∷ []) ≡ Err ChannelShort
  -- writing 0, 1: 00 00 98
  pub one_up : fib_bytes (pos 0 ∷ pos 1 ∷ []) ≡ 0x00 ∷ 0x00 ∷ 0x98 ∷ []
  -- writing 0, 4: 00 00 B8
  pub smaller_of_two : fib_bytes (pos 0 ∷ pos 4 ∷ []) ≡ 0x00 ∷ 0x00 ∷ 0xB8 ∷ []
  -- writing none: 00 00
  pub none_written : fib_bytes [] ≡ 0x00 ∷ 0x00 ∷ []
  -- from 0, point (10 ms, 65,536): t = 3 gives 19,660
  pub on_the_way_lem : level_at (one_point 10 (pos 65536)) (pos 0) 3 ≡ pos 19660
  -- t = 10 gives 65,536
  pub at_its_end : level_at (one_point 10 (pos 65536)) (pos 0) 10 ≡ pos 65536
  -- from 65,536 to 0 in 3 ms: t = 1 gives 43,691
  pub on_the_way_down : level_at (one_point 3 (pos 0)) (pos 65536) 1 ≡ pos 43691
  -- hi 1, 64 octaves: total 2^64 - 1
  pub largest_total : total (one_sample 64) ≡ Ok (2 ^ 64 - 1)
  -- 65 octaves: 13
  pub octave_past_it : total (one_sample 65) ≡ Err OctaveTotal
  -- sample -2, all full: -512
  pub all_full : value example_voice 0 127 0 65536 (negsuc 1) 65536 ≡ negsuc 511
  -- the whole file reads as its voice and its sample
  pub whole_file_read : read_voice example_file ≡ Ok (record { voice = example_voice; sides = example_sides })
  -- and they write as the file
  pub whole_file_written : write_voice example_voice example_sides ≡ Ok example_file
  -- a block of two frames of it is -512 on both sides, then over
  pub whole_file_played : reckon example_file (record { octave = 0; velocity = 127; step = 65536; rate = 8000 }) (fill 4 ∷ [])
      ≡ Ok (record { answers = Ok 1 ∷ []; blocks = negsuc 511 ∷ negsuc 511 ∷ pos 0 ∷ pos 0 ∷ [] })

-- what samples become by being written and decoded: as many as they were
abbrev pub written_and_decoded : List ℤ → List ℤ
written_and_decoded samples = take (length samples) (fib_samples (fib_bytes samples))

-- beside the table: of two deltas that lead as near the one nearer to 0 is written, upward and downward
pub record EqualDistances : Type 0 where
  -- writing 0, -4 decodes to 0, -3
  pub downward : written_and_decoded (pos 0 ∷ negsuc 3 ∷ []) ≡ pos 0 ∷ negsuc 2 ∷ []
  -- writing 0, 4 to 0, 3
  pub upward : written_and_decoded (pos 0 ∷ pos 4 ∷ []) ≡ pos 0 ∷ pos 3 ∷ []
