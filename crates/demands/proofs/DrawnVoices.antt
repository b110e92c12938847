-- Drawn voices come back: their sheets can be held, their lengths suit, they are short, and demand 2 has the rest.
-- Assumes nothing.
use Prim.Native.Nat.{ℕ, ◌^◌, ◌≤◌, ◌<◌}
use mathlib.Core.Bool.{Bool, true, false, cond, or-true}
use mathlib.Core.List.{List, append-nil}
use mathlib.Core.Path.{◌≡◌, refl, sym, ap, ap₂, ◌∙◌}
use native.Mathlib.Omega.{arith}
use borrow.Author.Tests.{eq-eqb}
use lib.Dec.{eqb}
use lib.IntN.{ℤ}
use lib.ListN.{length, length-append}
use Rattle.laws.proofs.Cases.{impossible}
use Rattle.field.proofs.BigEndianLaws.{bytes_length}
use Rattle.header.specs.Compression.{known_compression}
use Rattle.header.specs.Octaves.{hi, total_samples}
use Rattle.header.specs.declared.compression.Compression.TheVariants.{None}
use Rattle.header.specs.declared.voice_header.VoiceHeader.{VoiceHeader}
use Rattle.header.proofs.HeaderLaws.{header_length}
use Rattle.chunk.proofs.WriteLaws.{chunk_length_lem}
use Rattle.body_write.specs.BodyBytes.{channel_bytes}
use Rattle.body_write.proofs.BodyBytesLaws.{raw_length, body_length_lem}
use Rattle.sheet.specs.Flat.{flat}
use Rattle.sheet.specs.Voice.{is_stereo}
use Rattle.sheet_grammar.proofs.Theorem.{judged_flat, read_flat}
use Rattle.sheet_write.specs.VoiceChunks.{voice_chunks}
use Rattle.body_read.proofs.SideLaws.{right_suits, suit_is}
use Rattle.voice_read.specs.Parsed.{Lent, lengths_of, reading_leaves}
use Rattle.voice_read.specs.ReadVoice.{Reading, read_voice}
use Rattle.voice_read.specs.declared.chunks.Lengths.{Lengths}
use Rattle.voice_read.proofs.AnswerLaws.{answer_fits}
use Rattle.voice_write.specs.WriteVoice.{contents, file_of, write_voice}
use Rattle.voice_write.proofs.WriteLaws.{suited, contents_length, voice_suited, held_fits}
use Rattle.drawn.specs.DrawnVoice.{two_channels, drawn_header, plain_voice, drawn_sides, drawn_reading, drawn, after_drawing}
use Rattle.drawn.proofs.VoiceLaws.{total_most, sides_fit, left_count, right_count, either_most, sheet_most, left_most, right_most, drawn_refuses, drawn_gives, drawn_allowed, drawn_stereo}
use Rattle.demands.specs.DrawnVoices.{RoomFor, ComesBack, LeftComesBack, DrawnVoices}
use Rattle.demands.proofs.Demand2.{demand2}
use Rattle.demands.proofs.Played.{ReadOut, read_out}
use Rattle.refusal.specs.declared.Refusal.TheVariants.{ZeroNumber}
use Rattle.std.specs.Prelude.{Err, Ok}

-- ---- what the writer asks

-- VHDR has 28 bytes, and CHAN 12
chunks_short : (h : VoiceHeader) (stereo : Bool) → length (voice_chunks (plain_voice h stereo)) ≤ 40
unfolding voice_chunks
chunks_short h true = simp (append-nil, length-append, chunk_length_lem, header_length, bytes_length) (omega arith)
chunks_short h false = simp (append-nil, chunk_length_lem, header_length) (omega arith)

-- one channel, or two that are alike
channels_suit : (t : Bool) (n : ℕ) → cond t (eqb (cond t n 0) n) (eqb (cond t n 0) 0) ≡ true
channels_suit true n = eq-eqb n n refl
channels_suit false n = refl

module _ (number : ℕ) where
  raw : known_compression (drawn_header number).compression_byte ≡ Ok None
  unfolding known_compression drawn_header
  raw = refl

  suits : suited (drawn_reading number).voice (drawn_sides number) ≡ true
  suits =
      let h = drawn_header number in
      let stereo = is_stereo (drawn_reading number).voice.channel in
      let left = length (drawn_sides number).left in
      let right = length (drawn_sides number).right in
      let alike : right_suits h stereo left right ≡ true = rw (drawn_stereo number, left_count number, right_count number) (channels_suit (two_channels number) (total_samples h)) in
      suit_is h stereo left right alike ∙ rw (eq-eqb left (total_samples h) (left_count number)) (or-true (eqb (hi h) 0))

  short : length (contents (drawn_reading number).voice None (drawn_sides number)) < 2 ^ 32
  short =
      let v = (drawn_reading number).voice in
      let left = (drawn_sides number).left in
      let right = (drawn_sides number).right in
      let stereo = is_stereo v.channel in
      let few : length (channel_bytes None right) ≤ 1890 = omega (arith, raw_length None right refl, right_most number) in
      omega (
        arith,
        contents_length v None (drawn_sides number),
        chunks_short (drawn_header number) (two_channels number),
        body_length_lem None stereo left right,
        raw_length None left refl,
        left_most number,
        either_most stereo (length (channel_bytes None right)) 0 1890 few (omega arith),
      )

  accepted : write_voice (drawn_reading number).voice (drawn_sides number) ≡ Ok (file_of (contents (drawn_reading number).voice None (drawn_sides number)))
  accepted =
      let v = (drawn_reading number).voice in
      voice_suited v (drawn_sides number) None raw (omega (arith, total_most number)) suits ∙ held_fits (contents v None (drawn_sides number)) short

  back : ComesBack (drawn_reading number)
  back =
      let v = (drawn_reading number).voice in
      let fit = sides_fit number in
      let allowed = drawn_allowed number in
      record {
        file = file_of (contents v None (drawn_sides number));
        written = rw (judged_flat v allowed, read_flat v allowed) accepted;
        read = demand2.round_trip v (drawn_sides number) _ allowed raw tt fit.0 fit.1 accepted;
      }

-- ---- what the entries leave

-- a reading is accepted where there is room
roomy : (r : Reading) (b : Lent) → RoomFor (lengths_of r) b → (reading_leaves (Ok r) b).parsed ≡ Ok (lengths_of r)
roomy r b room =
    sym (answer_fits (Ok r) b.sheet b.left b.right (lengths_of r) (record { reading = r; is = refl; lengths = refl }) room.sheet room.left room.right _ _ _ refl refl refl).0

-- what was left, if what it was made of comes back
module _ (number : ℕ) (b : Lent) (l : Lengths) (out : ReadOut (drawn number) b l) (k : ComesBack out.reading) where
  read_again : (c : Lent) → RoomFor l c → (reading_leaves (read_voice k.file) c).parsed ≡ Ok l
  read_again c room = rw (k.read, ← out.lengths) (roomy out.reading c (rw out.lengths room))

  same : (c : Lent) (room : RoomFor l c) → (read_out (read_voice k.file) c l (read_again c room)).reading ≡ out.reading
  same c room =
      let e : Ok (read_out (read_voice k.file) c l (read_again c room)).reading ≡ Ok out.reading = sym (read_out (read_voice k.file) c l (read_again c room)).is ∙ k.read in
      cc

  left_back : LeftComesBack number b l
  left_back = record {
    file = k.file;
    written = rw (out.sheet, out.left, out.right) k.written;
    lengths = read_again;
    sheet = λ c room. (read_out (read_voice k.file) c l (read_again c room)).sheet ∙ ap (λ (r : Reading). flat r.voice) (same c room) ∙ sym out.sheet;
    sides = λ c room.
        let again = read_out (read_voice k.file) c l (read_again c room) in
        ap₂ (λ (x y : List ℤ). record { left = x; right = y })
        (again.left ∙ ap (λ (r : Reading). r.sides.left) (same c room) ∙ sym out.left)
        (again.right ∙ ap (λ (r : Reading). r.sides.right) (same c room) ∙ sym out.right);
  }

-- what was drawn and accepted is the number's voice
module _ (number : ℕ) (b : Lent) (l : Lengths) (e : (after_drawing number b).parsed ≡ Ok l) where
  nonzero : number ≡ 0 → ⊥
  nonzero z = let refused : (reading_leaves (Err ZeroNumber) b).parsed ≡ Ok l = rw (drawn_refuses number z) at e in impossible cc

  drawn_out : ReadOut (drawn number) b l
  drawn_out = read_out (drawn number) b l e

  is_drawn : drawn_reading number ≡ drawn_out.reading
  is_drawn = let both : Ok (drawn_reading number) ≡ Ok drawn_out.reading = sym (drawn_gives number nonzero) ∙ drawn_out.is in cc

pub drawn_voices : DrawnVoices
drawn_voices = record {
  voice = λ number some. (drawn_reading number, drawn_gives number (λ z. omega arith), back number);
  accepted = λ number b some room. (
    lengths_of (drawn_reading number),
    rw (drawn_gives number (λ z. omega arith))
        (roomy (drawn_reading number) b (record {
          sheet = omega (arith, sheet_most number, room.sheet);
          left = omega (arith, left_most number, room.left);
          right = omega (arith, right_most number, room.right);
        })),
  );
  left = λ number b l e. left_back number b l (drawn_out number b l e) (rw (← is_drawn number b l e) (back number));
}
