-- Laws of a RIFF's bytes: how long its parts are, that a file is what stands before the values, the values and their pad, and the numbers
-- of its heads and of fmt read again.
-- Elsewhere only the proofs of the functions that store these parts, and a closed example, look into the definitions.
-- Assumes nothing.
use Prim.Native.Nat.{ℕ, ◌+◌, ◌*◌, ◌%◌, ◌^◌, ◌<◌}
use lib.ListN.{length, drop, length-append}
use lib.Seq.{drop_at, drop-drop}
use mathlib.Core.List.{List, ◌++◌, append-nil, append_assoc}
use mathlib.Core.Path.{◌≡◌, refl, sym, ap, ◌∙◌}
use native.Mathlib.Omega.{arith}
use Rattle.chunk.proofs.WriteLaws.{pad_even, pad_length}
use Rattle.chunk.specs.ChunkBytes.{pad}
use Rattle.field.proofs.BigEndianLaws.{bytes_length}
use Rattle.field.proofs.LittleEndianLaws.{little_length, little_back}
use Rattle.field.specs.BigEndian.{big_endian_bytes}
use Rattle.field.specs.LittleEndian.{little_endian, little_endian_bytes}
use Rattle.wave.specs.Helpers.{held_for, front_bytes}
use Rattle.wave.specs.Riff.{riff, wave_type, fmt, data_name, riff_head, riff_chunk, format_bytes, wave_contents}

-- ---- how long

pub head_length : (id n : ℕ) → length (riff_head id n) ≡ 8
unfolding riff_head
head_length id n = omega (arith, length-append (big_endian_bytes 4 id) (little_endian_bytes 4 n), bytes_length 4 id, little_length 4 n)

pub format_length : (channels rate : ℕ) → length (format_bytes channels rate) ≡ 16
unfolding format_bytes
format_length channels rate = simp (length-append, little_length) refl

pub chunk_length_lem : (id : ℕ) (payload : List ℕ) → length (riff_chunk id payload) ≡ 8 + length payload + length payload % 2
unfolding riff_chunk
chunk_length_lem id payload =
    let n = length payload in
    omega (arith, length-append (riff_head id n ++ payload) (pad n), length-append (riff_head id n) payload, head_length id n, pad_length n)

-- what a WAVE holds is even, so no pad follows it
pub held_chunk : (id : ℕ) (payload : List ℕ) (n : ℕ) → length payload ≡ held_for n → length (riff_chunk id payload) ≡ held_for n + 8
held_chunk id payload n e = chunk_length_lem id payload ∙ rw e (omega arith)

-- the front ends where the values begin
pub front_length : (channels rate held n : ℕ) → length (front_bytes channels rate held n) ≡ 44
unfolding front_bytes
front_length channels rate held n = simp (length-append, bytes_length, head_length, format_length) refl

module _ (channels rate : ℕ) (values : List ℕ) where
  abbrev format : List ℕ
  format = format_bytes channels rate

  pub contents_length : length (wave_contents channels rate values) ≡ held_for (length values)
  unfolding wave_contents
  contents_length =
      let type = big_endian_bytes 4 wave_type in
      let joined = length-append (type ++ riff_chunk fmt format) (riff_chunk data_name values) in
      let before = length-append type (riff_chunk fmt format) in
      omega (arith, joined, before, bytes_length 4 wave_type, chunk_length_lem fmt format, format_length channels rate, chunk_length_lem data_name values)

  -- the file: the front, the values and their pad
  pub file_parts : riff_chunk riff (wave_contents channels rate values) ≡ front_bytes channels rate (held_for (length values)) (length values) ++ values ++ pad (length values)
  unfolding riff_chunk wave_contents front_bytes
  file_parts =
      let n = length values in
      let told : length format ≡ 16 = format_length channels rate in
      let even : held_for n % 2 ≡ 0 = omega arith in
      rw (contents_length, pad_even (held_for n) even, told, pad_even 16 refl) (simp (append_assoc, append-nil))

  -- the same, from its start on
  pub file_order : riff_chunk riff (wave_contents channels rate values)
      ≡ riff_head riff (held_for (length values)) ++ (big_endian_bytes 4 wave_type ++ (riff_head fmt 16 ++ (format ++ (riff_head data_name (length values) ++ (values ++ pad (length values))))))
  unfolding front_bytes
  file_order = file_parts ∙ simp append_assoc

-- ---- read again

-- the length behind a name
pub head_size : (id n : ℕ) (rest : List ℕ) → n < 2 ^ 32 → little_endian 4 (drop 4 (riff_head id n ++ rest)) ≡ n
unfolding riff_head
head_size id n rest h =
    let name = big_endian_bytes 4 id in
    let size = little_endian_bytes 4 n in
    rw (append_assoc name size rest, drop_at name (size ++ rest) 4 (bytes_length 4 id)) (little_back 4 n rest h)

-- the numbers of fmt, whatever follows it
module _ (channels rate : ℕ) (rest : List ℕ) where
  -- what follows the rate
  abbrev behind : List ℕ
  behind = little_endian_bytes 4 (rate * channels) ++ (little_endian_bytes 2 channels ++ (little_endian_bytes 2 8 ++ rest))

  format_parts : format_bytes channels rate ++ rest ≡ little_endian_bytes 2 1 ++ (little_endian_bytes 2 channels ++ (little_endian_bytes 4 rate ++ behind))
  unfolding format_bytes
  format_parts = simp append_assoc

  pub format_channels : channels < 2 ^ 16 → little_endian 2 (drop 2 (format_bytes channels rate ++ rest)) ≡ channels
  format_channels h =
      rw (format_parts, drop_at (little_endian_bytes 2 1) (little_endian_bytes 2 channels ++ (little_endian_bytes 4 rate ++ behind)) 2 (little_length 2 1))
      (little_back 2 channels (little_endian_bytes 4 rate ++ behind) h)

  pub format_rate : rate < 2 ^ 32 → little_endian 4 (drop 4 (format_bytes channels rate ++ rest)) ≡ rate
  format_rate h =
      let second = little_endian_bytes 2 channels ++ (little_endian_bytes 4 rate ++ behind) in
      let past : drop 4 (format_bytes channels rate ++ rest) ≡ little_endian_bytes 4 rate ++ behind =
      rw format_parts (sym (drop-drop 2 2 (little_endian_bytes 2 1 ++ second))
      ∙ ap (drop 2) (drop_at (little_endian_bytes 2 1) second 2 (little_length 2 1))
      ∙ drop_at (little_endian_bytes 2 channels) (little_endian_bytes 4 rate ++ behind) 2 (little_length 2 channels)) in
      rw past (little_back 4 rate behind h)
