-- The voice that is drawn from a number: the same number gives the same voice wherever it is drawn.
use Rattle.std.specs.Prelude.{ℕ, ◌+◌, ◌%◌, Bool, cond, List, [], map, eqb, ℤ, Err, None, Ok, Some}
use Rattle.field.specs.Signed.{sample_of}
use Rattle.header.specs.Octaves.{total_samples}
use Rattle.header.specs.declared.voice_header.VoiceHeader.{VoiceHeader}
use Rattle.small_chunks.specs.declared.channel.ChannelAssignment.TheVariants.{Stereo}
use Rattle.sheet.specs.Voice.{Voice}
use Rattle.body_read.specs.Sides.{Sides}
use Rattle.voice_read.specs.Parsed.{Lent, ReadResult, reading_leaves}
use Rattle.voice_read.specs.ReadVoice.{Reading}
use Rattle.drawn.specs.Draw.{nth_draw, draws}
use Rattle.refusal.specs.declared.Refusal.TheVariants.{ZeroNumber}
use Rattle.refusal.specs.Outcome.{Outcome}

-- ---- the first five draws: channels, octaves, one-shot, repeat, rate

-- two channels where the first draw's lowest bit is 1
abbrev pub two_channels : ℕ → Bool
two_channels number = eqb (nth_draw 1 number % 2) 1

-- a one-shot part beside a repeat part: 1 if both are 0
abbrev pub one_shot_beside : ℕ → ℕ → ℕ
one_shot_beside repeat one_shot = cond (eqb (one_shot + repeat) 0) 1 one_shot

-- the header
unfoldable pub drawn_header : ℕ → VoiceHeader
drawn_header number = record {
  one_shot_hi_samples = one_shot_beside (nth_draw 4 number % 64) (nth_draw 3 number % 64);
  repeat_hi_samples = nth_draw 4 number % 64;
  samples_per_hi_cycle = 0;
  samples_per_sec = 8000 + nth_draw 5 number % 40000;
  ct_octave = 1 + nth_draw 2 number % 4;
  compression_byte = 0;
  volume = 65536;
}

-- a voice that has a header, a CHAN if it has two channels, and nothing else
abbrev pub plain_voice : VoiceHeader → Bool → Voice
plain_voice h stereo = record {
  header = h;
  channel = cond stereo (Some Stereo) None;
  pan = None;
  attacks = [];
  releases = [];
  sequence = None;
  fade = None;
  texts = [];
}

-- ---- every further draw: a sample, its lowest byte

-- the samples of n draws from x
unfoldable pub drawn_samples : ℕ → ℕ → List ℤ
drawn_samples n x = map (λ draw. sample_of (draw % 256)) (draws n x)

-- all octaves of the left channel, and after them, where there are two channels, all of the right one
abbrev pub drawn_sides : ℕ → Sides
drawn_sides number =
    let total = total_samples (drawn_header number) in
    record {
      left = drawn_samples total (nth_draw 5 number);
      right = cond (two_channels number) (drawn_samples total (nth_draw (5 + total) number)) [];
    }

-- ---- the voice

-- what a number gives: its voice and the samples of both sides
abbrev pub drawn_reading : ℕ → Reading
drawn_reading number = record { voice = plain_voice (drawn_header number) (two_channels number); sides = drawn_sides number }

-- 48 for 0, from which every draw would be 0
unfoldable pub drawn : ℕ → Outcome Reading
drawn number = cond (eqb number 0) (Err ZeroNumber) (Ok (drawn_reading number))

-- what `drawn_voice` leaves: answer and buffers as if such a voice had been read, so 20 where one of them is too short
abbrev pub after_drawing : ℕ → Lent → ReadResult
after_drawing number b = reading_leaves (drawn number) b
