-- A file that the writer gave: what it accepted, and the chunks that the file holds.
--     accepts                       the three tests of the writer, and the file
--     raw_body, contents_items      BODY uncompressed, and what the FORM holds
-- Assumes nothing.
use Prim.Native.Nat.{ℕ, ◌^◌, ◌<◌}
use mathlib.Core.Bool.{Bool, true, false, cond, ◌||◌, and-eq-true_iff}
use mathlib.Core.List.{List, ◌++◌, map, append_assoc}
use mathlib.Core.Path.{◌≡◌, refl}
use native.Mathlib.Omega.{arith}
use borrow.Author.Tests.{ltb-true, eqb-true}
use lib.Dec.{eqb, ltb}
use lib.IntN.{ℤ}
use lib.ListN.{length, drop_of_length-le}
use Rattle.laws.proofs.Cases.{impossible}
use Rattle.laws.specs.Walk.{each}
use Rattle.field.specs.Signed.{byte_of}
use Rattle.header.specs.Compression.{known_compression}
use Rattle.header.specs.Octaves.{hi, total_samples}
use Rattle.header.specs.declared.compression.Compression.{Compression}
use Rattle.header.specs.declared.compression.Compression.TheVariants.{None}
use Rattle.header.specs.declared.voice_header.VoiceHeader.{VoiceHeader}
use Rattle.sheet.specs.Voice.{Voice, is_stereo}
use Rattle.body_read.specs.Sides.{Sides, lengths_suit}
use Rattle.body_write.specs.BodyBytes.{channel_bytes, body_bytes}
use Rattle.voice_write.specs.WriteVoice.{contents, file_of, write_voice}
use Rattle.voice_round_trip.proofs.Items.{voice_items, item_bytes, items_bytes}
use Rattle.voice_round_trip.proofs.FileBack.{held_of}
use Rattle.refusal.specs.declared.Refusal.TheVariants.{OctaveTotal, SampleLengths, FormLength}
use Rattle.std.specs.Prelude.{Err, Ok}

-- ---- what the writer accepts

pub record Accepts (v : Voice) (c : Compression) (s : Sides) (file : List ℕ) : Type 0 where
  pub total : total_samples v.header < 2 ^ 64
  pub suit : lengths_suit v.header (is_stereo v.channel) (length s.left) (length s.right) ≡ true
  pub small : length (contents v c s) < 2 ^ 32
  pub is : file ≡ file_of (contents v c s)

pub accepts : (v : Voice) (c : Compression) (s : Sides) (file : List ℕ) → known_compression v.header.compression_byte ≡ Ok c → write_voice v s ≡ Ok file → Accepts v c s file
unfolding write_voice
accepts v c s file k e = go (ltb total' (2 ^ 64)) suit' (ltb (length held) (2 ^ 32)) refl refl refl (rw k at e)
  where
    total' : ℕ
    total' = total_samples v.header

    suit' : Bool
    suit' = lengths_suit v.header (is_stereo v.channel) (length s.left) (length s.right)

    held : List ℕ
    held = contents v c s

    go : (x y z : Bool) → ltb total' (2 ^ 64) ≡ x → suit' ≡ y → ltb (length held) (2 ^ 32) ≡ z
        → cond x (cond y (cond z (Ok (file_of held)) (Err FormLength)) (Err SampleLengths)) (Err OctaveTotal) ≡ Ok file → Accepts v c s file
    go true true true p q r e = record { total = ltb-true total' (2 ^ 64) p; suit = q; small = ltb-true (length held) (2 ^ 32) r; is = cc }
    go true true false p q r e = impossible cc
    go true false z p q r e = impossible cc
    go false y z p q r e = impossible cc

-- ---- the samples

-- uncompressed, BODY is the bytes of both sides; one channel has none at the right
pub raw_body : (h : VoiceHeader) (stereo : Bool) (l r : List ℤ) → lengths_suit h stereo (length l) (length r) ≡ true → body_bytes None stereo l r ≡ map byte_of l ++ map byte_of r
unfolding body_bytes channel_bytes lengths_suit
raw_body h true l r e = refl
raw_body h false l r e =
    let none : eqb (length r) 0 ≡ true = ((and-eq-true_iff (eqb (hi h) 0 || eqb (length l) (total_samples h)) (eqb (length r) 0)).0 e).1 in
    rw (drop_of_length-le r {i = 0} (omega (arith, eqb-true (length r) 0 none)))

-- ---- what the FORM holds

pub contents_items : (v : Voice) (c : Compression) (s : Sides)
    → contents v c s ≡ held_of (each item_bytes (voice_items v (body_bytes c (is_stereo v.channel) s.left s.right)))
unfolding contents
contents_items v c s = rw (items_bytes v (body_bytes c (is_stereo v.channel) s.left s.right), append_assoc)
