-- Laws of a voice's file: its length, when it is refused, and what an accepted voice fulfils.
--     contents_length, file_length                                   how long the FORM's contents and the file are
--     left_bound, flat_within, right_within                          a side or a sheet that is too long makes a FORM that is
--     voice_unknown, voice_octaves, voice_unsuited, voice_suited     a voice by what is asked of it, in that order
--     held_fits, held_long                                           19 by the length of the contents
--     accepted, accepted_as                                          the other way
--     file_put                                                       the file, stored part by part
-- No proof elsewhere looks into `contents`, `file_of` or `write_voice`.
-- Assumes nothing.
use Prim.Native.Nat.{ℕ, ◌+◌, ◌*◌, ◌%◌, ◌^◌, ◌≤◌, ◌<◌}
use borrow.Author.Tests.{lt-ltb, le-ltb, ltb-true, ltb-false, eqb-true}
use lib.Dec.{eqb, ltb}
use lib.IntN.{ℤ}
use lib.ListN.{length, length-append}
use mathlib.Core.Bool.{Bool, true, false, cond}
use mathlib.Core.List.{List, ◌++◌}
use mathlib.Core.Path.{◌≡◌, refl, sym, ◌∙◌}
use native.Mathlib.Omega.{arith}
use Rattle.chunk.proofs.WriteLaws.{chunk_length_lem}
use Rattle.chunk.specs.ChunkBytes.{chunk_bytes}
use Rattle.body_write.proofs.BodyBytesLaws.{half_bound, body_length_lem}
use Rattle.body_write.specs.BodyBytes.{body_bytes}
use Rattle.field.proofs.BigEndianLaws.{bytes_length}
use Rattle.field.specs.BigEndian.{big_endian_bytes}
use Rattle.form.specs.Names.{form, form_type, body}
use Rattle.header.specs.Compression.{known_compression}
use Rattle.header.specs.Octaves.{total_samples}
use Rattle.header.specs.declared.compression.Compression.{Compression}
use Rattle.laws.proofs.PutLaws.{put_then}
use Rattle.laws.specs.Put.{Put}
use Rattle.sheet.specs.Flat.{flat}
use Rattle.sheet.specs.Voice.{Voice, is_stereo}
use Rattle.sheet_write.proofs.BoundLaws.{flat_bound}
use Rattle.sheet_write.specs.VoiceChunks.{voice_chunks}
use Rattle.body_read.proofs.SideLaws.{suit_parts}
use Rattle.body_read.specs.Sides.{Sides, lengths_suit}
use Rattle.voice_write.specs.WriteVoice.{contents, file_of, held32, write_voice}
use Rattle.refusal.specs.declared.Refusal.TheVariants.{OctaveTotal, SampleLengths, FormLength}
use Rattle.refusal.specs.Outcome.{Outcome}
use Rattle.refusal.specs.declared.Refusal.{Refusal}
use Rattle.std.specs.Prelude.{Err, Ok}

-- both sides
abbrev pub sides_of : List ℤ → List ℤ → Sides
sides_of left right = record { left = left; right = right }

-- ---- how long

pub file_length : (held : List ℕ) → length (file_of held) ≡ length held + 8
unfolding file_of
file_length held =
    let n = length held in
    omega (arith, length-append (big_endian_bytes 4 form ++ big_endian_bytes 4 n) held, length-append (big_endian_bytes 4 form) (big_endian_bytes 4 n), bytes_length 4 form, bytes_length 4 n)

module _ (v : Voice) (c : Compression) (s : Sides) where
  -- BODY's bytes
  abbrev pub samples : List ℕ
  samples = body_bytes c (is_stereo v.channel) s.left s.right

  -- the chunks, BODY's, and twelve bytes: the form type and BODY's head
  pub contents_length : length (contents v c s) ≡ 12 + length (voice_chunks v) + length samples + length samples % 2
  unfolding contents
  contents_length =
      let type = big_endian_bytes 4 form_type in
      omega (arith, length-append (type ++ voice_chunks v) (chunk_bytes body samples), length-append type (voice_chunks v), bytes_length 4 form_type, chunk_length_lem body samples)

  pub left_bound : length s.left ≤ 2 * length (contents v c s)
  left_bound = omega (arith, contents_length, body_length_lem c (is_stereo v.channel) s.left s.right, half_bound c s.left)

  pub flat_within : length (flat v) ≤ 2 * length (contents v c s)
  flat_within = omega (arith, contents_length, flat_bound v)

-- that the lengths suit
abbrev pub suited : Voice → Sides → Bool
suited v s = lengths_suit v.header (is_stereo v.channel) (length s.left) (length s.right)

-- then the right side is no longer than the left one
pub right_within : (v : Voice) (s : Sides) → suited v s ≡ true → length s.right ≤ length s.left
right_within v s suits = go (is_stereo v.channel) (suit_parts v.header (is_stereo v.channel) (length s.left) (length s.right) suits).1
  where
    go : (stereo : Bool) → cond stereo (eqb (length s.right) (length s.left)) (eqb (length s.right) 0) ≡ true → length s.right ≤ length s.left
    go true e = omega (arith, eqb-true (length s.right) (length s.left) e)
    go false e = omega (arith, eqb-true (length s.right) 0 e)

-- ---- by cases

pub held_fits : (held : List ℕ) → length held < 2 ^ 32 → held32 held ≡ Ok (file_of held)
held_fits held h = rw (lt-ltb (length held) (2 ^ 32) h)

pub held_long : (held : List ℕ) → 2 ^ 32 ≤ length held → held32 held ≡ Err FormLength
held_long held h = rw (le-ltb (length held) (2 ^ 32) h)

module _ (v : Voice) (s : Sides) where
  pub voice_unknown : (refusal : Refusal) → known_compression v.header.compression_byte ≡ Err refusal → write_voice v s ≡ Err refusal
  unfolding write_voice
  voice_unknown refusal e = rw e

  module _ (c : Compression) (e : known_compression v.header.compression_byte ≡ Ok c) where
    pub voice_octaves : 2 ^ 64 ≤ total_samples v.header → write_voice v s ≡ Err OctaveTotal
    unfolding write_voice
    voice_octaves large = rw (e, le-ltb (total_samples v.header) (2 ^ 64) large)

    module _ (total : total_samples v.header < 2 ^ 64) where
      pub voice_unsuited : suited v s ≡ false → write_voice v s ≡ Err SampleLengths
      unfolding write_voice
      voice_unsuited not = rw (e, lt-ltb (total_samples v.header) (2 ^ 64) total, not)

      pub voice_suited : suited v s ≡ true → write_voice v s ≡ held32 (contents v c s)
      unfolding write_voice
      voice_suited suits = rw (e, lt-ltb (total_samples v.header) (2 ^ 64) total, suits)

-- ---- the other way

-- all that is asked of a voice with a file
pub record Accepted (v : Voice) (s : Sides) (file : List ℕ) : Type 0 where
  pub compression : Compression
  pub known : known_compression v.header.compression_byte ≡ Ok compression
  pub total : total_samples v.header < 2 ^ 64
  pub suits : suited v s ≡ true
  pub fits : length (contents v compression s) < 2 ^ 32
  pub is : file ≡ file_of (contents v compression s)

module _ (v : Voice) (s : Sides) (file : List ℕ) (w : write_voice v s ≡ Ok file) where
  refused : (refusal : Refusal) → write_voice v s ≡ Err refusal → Accepted v s file
  refused refusal e = let z : ◌≡◌ {A = ℕ} 0 1 = cc in absurd (omega arith)

  module _ (c : Compression) (k : known_compression v.header.compression_byte ≡ Ok c) where
    by_length : (t : total_samples v.header < 2 ^ 64) (u : suited v s ≡ true) (b : Bool) → ltb (length (contents v c s)) (2 ^ 32) ≡ b → Accepted v s file
    by_length t u true q =
        let fits = ltb-true (length (contents v c s)) (2 ^ 32) q in
        let both : Ok file ≡ Ok (file_of (contents v c s)) = sym w ∙ voice_suited v s c k t u ∙ held_fits (contents v c s) fits in
        record { compression = c; known = k; total = t; suits = u; fits = fits; is = cc }
    by_length t u false q = refused FormLength (voice_suited v s c k t u ∙ held_long (contents v c s) (ltb-false (length (contents v c s)) (2 ^ 32) q))

    by_suit : total_samples v.header < 2 ^ 64 → (b : Bool) → suited v s ≡ b → Accepted v s file
    by_suit t true q = by_length t q (ltb (length (contents v c s)) (2 ^ 32)) refl
    by_suit t false q = refused SampleLengths (voice_unsuited v s c k t q)

    by_total : (b : Bool) → ltb (total_samples v.header) (2 ^ 64) ≡ b → Accepted v s file
    by_total true q = by_suit (ltb-true (total_samples v.header) (2 ^ 64) q) (suited v s) refl
    by_total false q = refused OctaveTotal (voice_octaves v s c k (ltb-false (total_samples v.header) (2 ^ 64) q))

  by_byte : (k : Outcome Compression) → known_compression v.header.compression_byte ≡ k → Accepted v s file
  by_byte (Ok c) q = by_total c q (ltb (total_samples v.header) (2 ^ 64)) refl
  by_byte (Err refusal) q = refused refusal (voice_unknown v s refusal q)

  pub accepted : Accepted v s file
  accepted = by_byte (known_compression v.header.compression_byte) refl

-- by the compression that the header names
pub accepted_as : (v : Voice) (s : Sides) (file : List ℕ) (c : Compression) → known_compression v.header.compression_byte ≡ Ok c → (a : Accepted v s file) → a.compression ≡ c
accepted_as v s file c k a = let e : Ok a.compression ≡ Ok c = sym a.known ∙ k in cc

-- ---- stored part by part

pub file_put : {d d₁ d₂ d₃ d₄ d₅ : List ℕ} {at p q r t end : ℕ} (v : Voice) (c : Compression) (s : Sides) (n : ℕ) → n ≡ length (contents v c s)
    → Put d at (big_endian_bytes 4 form) d₁ p → Put d₁ p (big_endian_bytes 4 n) d₂ q → Put d₂ q (big_endian_bytes 4 form_type) d₃ r
    → Put d₃ r (voice_chunks v) d₄ t → Put d₄ t (chunk_bytes body (samples v c s)) d₅ end → Put d at (file_of (contents v c s)) d₅ end
unfolding contents file_of
file_put v c s n e named sized typed chunks sound = rw e at (put_then (put_then named sized) (put_then (put_then typed chunks) sound))
