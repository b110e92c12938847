-- A header is 20 bytes; what is written reads back, and what is read writes back.
--     header_length    a header's bytes are 20
--     header_back      a header that was written reads back, whatever follows its bytes
--     bytes_back       bytes that were read as a header are written again
-- Assumes nothing.
use Prim.Native.Nat.{ℕ, ◌+◌, ◌^◌, ◌≤◌, ◌<◌}
use mathlib.Core.List.{List, [], ◌∷◌, ◌++◌, append_assoc}
use mathlib.Core.Path.{◌≡◌, sym, ap, ◌∙◌}
use native.Mathlib.Omega.{arith}
use lib.ListN.{length, get_or, take, drop, length-append, length-drop}
use lib.Seq.{get_or-drop, drop-drop, drop_at, take-add, drop-cons}
use Rattle.field.specs.BigEndian.{big_endian, big_endian_bytes, Bytes}
use Rattle.field.proofs.BigEndianLaws.{bytes_length, bytes_drop, number_back, number_bytes, number_fits}
use Rattle.header.specs.Header.{header_of, header_bytes, Fitting}
use Rattle.header.specs.declared.voice_header.VoiceHeader.{VoiceHeader}

pub header_length : (h : VoiceHeader) → length (header_bytes h) ≡ 20
unfolding header_bytes
header_length h = simp (length-append, bytes_length)

-- ---- written, then read

-- where a number's bytes stand at a place, it is read there, and what comes after them is n places on
module _ (n v at : ℕ) (l rest : List ℕ) (e : drop at l ≡ big_endian_bytes n v ++ rest) where
  read_at : v < 256 ^ n → big_endian n (drop at l) ≡ v
  read_at h = rw e (number_back n v rest h)

  past : drop (at + n) l ≡ rest
  past = sym (drop-drop n at l) ∙ ap (drop n) e ∙ drop_at (big_endian_bytes n v) rest n (bytes_length n v)

pub header_back : (h : VoiceHeader) (rest : List ℕ) → Fitting h → header_of (header_bytes h ++ rest) ≡ h
unfolding header_of header_bytes
header_back h rest f =
    let l = header_bytes h ++ rest in
    let from_16 = big_endian_bytes 4 h.volume ++ rest in
    let from_14 = h.ct_octave ∷ h.compression_byte ∷ from_16 in
    let from_12 = big_endian_bytes 2 h.samples_per_sec ++ from_14 in
    let from_8 = big_endian_bytes 4 h.samples_per_hi_cycle ++ from_12 in
    let from_4 = big_endian_bytes 4 h.repeat_hi_samples ++ from_8 in
    let all : l ≡ big_endian_bytes 4 h.one_shot_hi_samples ++ from_4 = simp append_assoc in
    let at_4 : drop 4 l ≡ from_4 = past 4 h.one_shot_hi_samples 0 l from_4 all in
    let at_8 : drop 8 l ≡ from_8 = past 4 h.repeat_hi_samples 4 l from_8 at_4 in
    let at_12 : drop 12 l ≡ from_12 = past 4 h.samples_per_hi_cycle 8 l from_12 at_8 in
    let at_14 : drop 14 l ≡ from_14 = past 2 h.samples_per_sec 12 l from_14 at_12 in
    let at_16 : drop 16 l ≡ from_16 = sym (drop-drop 2 14 l) ∙ ap (drop 2) at_14 in
    rw (
      read_at 4 h.one_shot_hi_samples 0 l from_4 all f.one_shot,
      read_at 4 h.repeat_hi_samples 4 l from_8 at_4 f.repeat,
      read_at 4 h.samples_per_hi_cycle 8 l from_12 at_8 f.cycle,
      read_at 2 h.samples_per_sec 12 l from_14 at_12 f.rate,
      sym (get_or-drop 14 l 0 0) ∙ ap (λ (x : List ℕ). get_or x 0 0) at_14,
      sym (get_or-drop 14 l 1 0) ∙ ap (λ (x : List ℕ). get_or x 1 0) at_14,
      read_at 4 h.volume 16 l rest at_16 f.volume,
    )

-- ---- read, then written

module _ (l : List ℕ) (b : Bytes l) where
  -- what is read fits
  pub header_fits : Fitting (header_of l)
  unfolding header_of
  header_fits = record {
    one_shot = number_fits 4 l b;
    repeat = number_fits 4 (drop 4 l) (bytes_drop 4 l b);
    cycle = number_fits 4 (drop 8 l) (bytes_drop 8 l b);
    rate = number_fits 2 (drop 12 l) (bytes_drop 12 l b);
    octave_count = b 14;
    compression = b 15;
    volume = number_fits 4 (drop 16 l) (bytes_drop 16 l b);
  }

  -- a number, written after the bytes before it
  then_number : (at n : ℕ) → at + n ≤ length l → take at l ++ big_endian_bytes n (big_endian n (drop at l)) ≡ take (at + n) l
  then_number at n h = rw (number_bytes n (drop at l) (bytes_drop at l b) (rw length-drop (omega arith))) (sym (take-add at n l))

  pub bytes_back : 20 ≤ length l → header_bytes (header_of l) ≡ take 20 l
  unfolding header_of header_bytes
  bytes_back h =
      let two : take 2 (drop 14 l) ≡ get_or l 14 0 ∷ get_or l 15 0 ∷ [] = rw (drop-cons l 14 0 (omega arith), drop-cons l 15 0 (omega arith)) in
      rw (
        then_number 0 4 (omega arith),
        then_number 4 4 (omega arith),
        then_number 8 4 (omega arith),
        then_number 12 2 (omega arith),
        ← two,
        ← take-add 14 2 l,
        then_number 16 4 h,
      )
