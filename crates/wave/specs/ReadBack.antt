-- A WAVE file taken apart by its own lengths, and what that gives of a file that was written: the octave again.
use Rattle.std.specs.Prelude.{ℕ, ◌+◌, ◌%◌, cond, List, [], map, ◌≡◌, eqb, ℤ, pos, ◌-ℤ◌, length, take, drop}
use Rattle.laws.specs.Turns.{evens, odds}
use Rattle.field.specs.LittleEndian.{little_endian}
use Rattle.body_read.specs.Sides.{Sides}
use Rattle.sheet.specs.Voice.{Voice, is_stereo}
use Rattle.octaves.specs.Octave.{octave_of}
use Rattle.octaves.specs.Side.{of_side}
use Rattle.octaves.specs.declared.side.Side.{Side}
use Rattle.octaves.specs.declared.side.Side.TheVariants.{Left, Right}
use Rattle.wave.specs.Wave.{channels_of}

-- ---- a file taken apart

-- the RIFF length
abbrev pub riff_length : List ℕ → ℕ
riff_length file = little_endian 4 (drop 4 file)

-- the channels, which fmt says behind its head and the format's number
abbrev pub channels_in : List ℕ → ℕ
channels_in file = little_endian 2 (drop 22 file)

-- the rate, behind them
abbrev pub rate_in : List ℕ → ℕ
rate_in file = little_endian 4 (drop 24 file)

-- the file from the chunk after fmt on; fmt's payload begins at 20 and is as long as its head says
abbrev pub after_format : List ℕ → List ℕ
after_format file = drop (20 + little_endian 4 (drop 16 file)) file

-- the payload of the chunk at the front, as long as its head says
abbrev pub payload_of : List ℕ → List ℕ
payload_of chunk = take (little_endian 4 (drop 4 chunk)) (drop 8 chunk)

-- the values of a side: of one channel all are left's; of two those at even places are left's and those at odd ones right's
abbrev pub side_values : ℕ → Side → List ℕ → List ℕ
side_values channels Left values = cond (eqb channels 2) (evens values) values
side_values channels Right values = cond (eqb channels 2) (odds values) []

-- a value as a sample: less 128
abbrev pub sample_from : ℕ → ℤ
sample_from value = pos value -ℤ pos 128

-- the samples of a side
abbrev pub side_of : Side → List ℕ → List ℤ
side_of side file = map sample_from (side_values (channels_in file) side (payload_of (after_format file)))

-- ---- what it gives

-- of the file of octave k of a voice
pub record ReadBack (v : Voice) (s : Sides) (k : ℕ) (file : List ℕ) : Type 0 where
  -- the RIFF length and 8 is the file's length
  pub whole : riff_length file + 8 ≡ length file
  -- the data begin at 44, behind the head of the chunk after fmt
  pub begins : drop 8 (after_format file) ≡ drop 44 file
  -- the RIFF length counts the pad of odd data, which their own length doesn't
  pub padded : riff_length file ≡ 36 + length (payload_of (after_format file)) + length (payload_of (after_format file)) % 2
  -- it has the voice's channels and the voice's rate
  pub channels : channels_in file ≡ channels_of (is_stereo v.channel)
  pub rate : rate_in file ≡ v.header.samples_per_sec
  -- the samples of each side are the octave of that side
  pub samples : (side : Side) → side_of side file ≡ octave_of v.header k (of_side side s.left s.right)
