-- Voices drawn from numbers: the writer accepts every one of them, and the reader gives it back, which is proved as `drawn_voices`. By which numbers
-- drawing is refused, and that a refused one leaves its buffers as they were, is proved as `drawn_refused`. What the code
-- does comes in by three names, which are what the contracts say: `after_drawing` (drawn_voice), `write_sheet` (encode_voice) and
-- `after_reading` (parse_voice).
use Rattle.std.specs.Prelude.{ℕ, ◌≤◌, ◌<◌, List, [], ◌∷◌, ◌≡◌, length, take, Err, Ok}
use Rattle.laws.specs.Among.{Among}
use Rattle.sheet.specs.Flat.{flat}
use Rattle.body_read.specs.Sides.{Sides}
use Rattle.voice_read.specs.Parsed.{Lent, after_reading}
use Rattle.voice_read.specs.ReadVoice.{Reading, read_voice}
use Rattle.voice_read.specs.declared.chunks.Lengths.{Lengths}
use Rattle.voice_write.specs.WriteVoice.{write_sheet}
use Rattle.drawn.specs.DrawnVoice.{drawn, after_drawing}
use Rattle.demands.specs.Demand3.{sheet_read, sides_read}
use Rattle.refusal.specs.declared.Refusal.TheVariants.{ZeroNumber, BufferShort}
use Rattle.refusal.specs.declared.Refusal.{Refusal}

-- three buffers have room for so many bytes and samples
pub record RoomFor (l : Lengths) (b : Lent) : Type 0 where
  pub sheet : l.sheet ≤ length b.sheet
  pub left : l.left ≤ length b.left
  pub right : l.right ≤ length b.right

-- the sheet that drawing left, cut to its length
abbrev pub sheet_drawn : ℕ → Lent → Lengths → List ℕ
sheet_drawn number b l = take l.sheet (after_drawing number b).buffers.sheet

-- both sides, cut to their lengths
abbrev pub sides_drawn : ℕ → Lent → Lengths → Sides
sides_drawn number b l = record { left = take l.left (after_drawing number b).buffers.left; right = take l.right (after_drawing number b).buffers.right }

-- a voice that the writer accepts and the reader gives back: its file
pub record ComesBack (r : Reading) : Type 0 where
  pub file : List ℕ
  pub written : write_sheet (flat r.voice) r.sides ≡ Ok file
  pub read : read_voice file ≡ Ok r

-- the same of what drawing left in buffers: reading its file, into whatever buffers have room, gives the lengths, the sheet and the sides that were drawn
pub record LeftComesBack (number : ℕ) (b : Lent) (l : Lengths) : Type 0 where
  pub file : List ℕ
  pub written : write_sheet (sheet_drawn number b l) (sides_drawn number b l) ≡ Ok file
  pub lengths : (c : Lent) → RoomFor l c → (after_reading file c).parsed ≡ Ok l
  pub sheet : (c : Lent) → RoomFor l c → sheet_read file c l ≡ sheet_drawn number b l
  pub sides : (c : Lent) → RoomFor l c → sides_read file c l ≡ sides_drawn number b l

-- of every number but 0, so from 1 to 2^32 - 1
pub record DrawnVoices : Type 0 where
  -- it gives a voice that comes back
  pub voice : (number : ℕ) → 0 < number → (r : Reading) × (drawn number ≡ Ok r) × ComesBack r
  -- drawing it into buffers of 23, 1,890 and 1,890 places is accepted
  pub accepted : (number : ℕ) (b : Lent) → 0 < number → RoomFor (record { sheet = 23; left = 1890; right = 1890 }) b → (l : Lengths) × ((after_drawing number b).parsed ≡ Ok l)
  -- and what an accepted drawing left comes back
  pub left : (number : ℕ) (b : Lent) (l : Lengths) → (after_drawing number b).parsed ≡ Ok l → LeftComesBack number b l

-- drawing a voice: 48
abbrev pub drawn_refusals : List Refusal
drawn_refusals = ZeroNumber ∷ []

-- drawn_voice is refused by 48 or 20, and then sheet, left and right are as they were
pub record DrawnRefused : Type 0 where
  pub drawn_voice : (number : ℕ) (b : Lent) (refusal : Refusal) → (after_drawing number b).parsed ≡ Err refusal
      → Among refusal (BufferShort ∷ drawn_refusals) × ((after_drawing number b).buffers ≡ b)
