-- The channels of a read voice in difference order: no rule turns them back, since their lengths suit the header.
-- Assumes nothing.
use Prim.Native.Nat.{◌^◌, ◌<◌}
use mathlib.Core.Bool.{true, false, not, ◌||◌}
use mathlib.Core.List.{List}
use mathlib.Core.Path.{◌≡◌, refl, ap, ◌∙◌}
use borrow.Author.Tests.{lt-leb, eqb-true}
use lib.Dec.{eqb}
use lib.IntN.{ℤ}
use lib.ListN.{length}
use Rattle.refusal.proofs.RuleLaws.{first_later, first_none}
use Rattle.field.specs.Signed.{Samples}
use Rattle.header.specs.Octaves.{hi, total_samples}
use Rattle.header.specs.declared.voice_header.VoiceHeader.{VoiceHeader}
use Rattle.body_read.proofs.SideLaws.{right_suits, suit_is, suit_parts}
use Rattle.sheet.specs.Voice.{is_stereo}
use Rattle.voice_read.specs.ReadVoice.{Reading}
use Rattle.vault.specs.DifferenceOrder.{octave_order, each_octave}
use Rattle.vault.proofs.JudgeLaws.{by_gives}
use Rattle.vault.proofs.Promise as vault
use Rattle.demands.specs.Demand2.{Acceptable}
use Rattle.demands.specs.ReadVault.{Stored, ReadVault}
use Rattle.demands.proofs.Accepted.{read_sound}
use Rattle.demands.proofs.Demand2.{demand2}

-- a channel that is the total long, or of any length if hi = 0
stored : (h : VoiceHeader) (channel : List ℤ) → Samples channel → total_samples h < 2 ^ 64 → (eqb (hi h) 0 || eqb (length channel) (total_samples h)) ≡ true → Stored h channel
stored h channel fits total long =
    let counted = first_later _ _ (lt-leb (2 ^ 64) (total_samples h) total) in
    let suited = first_later _ _ (ap not (suit_is h false (length channel) 0 refl ∙ long)) in
    let given = by_gives octave_order h channel (counted ∙ suited ∙ first_none) in
    record { values = each_octave octave_order h channel; ordered = given; back = (vault.promise).restored h channel (each_octave octave_order h channel) fits given }

module _ (r : Reading) (sound : Acceptable r) where
  parts : ((eqb (hi r.voice.header) 0 || eqb (length r.sides.left) (total_samples r.voice.header)) ≡ true)
      × (right_suits r.voice.header (is_stereo r.voice.channel) (length r.sides.left) (length r.sides.right) ≡ true)
  parts = suit_parts r.voice.header (is_stereo r.voice.channel) (length r.sides.left) (length r.sides.right) sound.lengths_suit_lem

  -- two channels are of one length
  same : is_stereo r.voice.channel ≡ true → length r.sides.right ≡ length r.sides.left
  same two = eqb-true (length r.sides.right) (length r.sides.left) (rw two at parts.1)

pub read_vault : ReadVault
read_vault = record {
  left = λ file r bytes e.
      let sound = read_sound file r bytes e in
      stored r.voice.header r.sides.left (demand2.samples file r e).0 sound.total (parts r sound).0;
  right = λ file r bytes e two.
      let sound = read_sound file r bytes e in
      stored r.voice.header r.sides.right (demand2.samples file r e).1 sound.total (rw (same r sound two) (parts r sound).0);
}
