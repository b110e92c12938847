-- What it says that no rule turns a fill back.
--     in_octave_lem                         the octave lies within the samples, and the segments lie within it
--     fade_fits, fade_ends                  a fade has a sequence, whose path is short, and ends with the path
--     sides_same                            two sides are of one length
--     even_places, slow_step                the buffer and the step
--     some_rate, slow_rate                  the rate
--     key_up_then                           a key-up isn't ahead of the frames filled
--     most_velocity                         the velocity
-- Assumes nothing.
use Prim.Native.Nat.{ℕ, ◌+◌, ◌-◌, ◌*◌, ◌%◌, ◌≤◌, ◌<◌, ◌^◌}
use mathlib.Core.Bool.{Bool, true, false, cond, ◌||◌}
use mathlib.Core.List.{List}
use mathlib.Core.Logic.{◌⊎◌, inl, inr}
use mathlib.Core.Path.{◌≡◌, refl, sym}
use native.Mathlib.Nat.{zero-mul}
use native.Mathlib.Omega.{arith}
use borrow.Author.Tests.{ltb-true, ltb-false, leb-true, leb-false, eqb-true, eqb-false, not-false}
use lib.Dec.{eqb, ltb, leb}
use lib.ListN.{length}
use Rattle.laws.proofs.Cases.{impossible, neither}
use Rattle.header.specs.Octaves.{hi, octaves, octave_there, total_samples}
use Rattle.header.specs.declared.voice_header.VoiceHeader.{VoiceHeader}
use Rattle.header.proofs.OctaveLaws.{octave_end, many_octaves}
use Rattle.small_chunks.specs.declared.sequence.Fade.{Fade}
use Rattle.small_chunks.specs.declared.sequence.SeqnSegment.{SeqnSegment}
use Rattle.sheet.specs.Voice.{Voice, is_stereo}
use Rattle.body_read.specs.Sides.{lengths_suit}
use Rattle.body_read.proofs.SideLaws.{suit_parts}
use Rattle.note_path.specs.Path.{segments_of, path_of, joined_length, all_valid}
use Rattle.note_path.specs.Run.{InOctave}
use Rattle.note_path.proofs.LengthLaws.{sequence_ends, valid_order}
use Rattle.note_frame.specs.Gains.{gains_of, FadeOn, FadeShort}
use Rattle.note_frame.proofs.GainsLaws.{gains_fade, gains_no_fade}
use Rattle.refusal.specs.Rules.{first_holding}
use Rattle.note_rules.specs.Rules.{fade_misses, key_up_ahead, fill_rules}
use Rattle.note_frame.specs.declared.playing.Playing.{Playing}
use Rattle.note_rules.proofs.RuleLaws.{NoneOf, none_of}
use Rattle.std.specs.Prelude.{None, Option, Some, Ok}

-- ---- the octave

-- octave 0 is all there is, or octave k is one of those whose lengths add up to the total
record Among (h : VoiceHeader) (k n : ℕ) : Type 0 where
  some : 0 < hi h
  below : k < octaves h
  all : n ≡ total_samples h

abbrev OctaveOf : VoiceHeader → ℕ → ℕ → Type 0
OctaveOf h k n = ((hi h ≡ 0) × (k ≡ 0)) ⊎ Among h k n

octave_of_lem : (h : VoiceHeader) (k n : ℕ) → octave_there h k ≡ true → (eqb (hi h) 0 || eqb n (total_samples h)) ≡ true → OctaveOf h k n
octave_of_lem h k n = go (eqb (hi h) 0) refl
  where
    go : (t : Bool) → eqb (hi h) 0 ≡ t → cond t (eqb k 0) (ltb k (octaves h)) ≡ true → (t || eqb n (total_samples h)) ≡ true → OctaveOf h k n
    go true e there suits = inl (eqb-true (hi h) 0 e, eqb-true k 0 there)
    go false e there suits =
        inr (record { some = omega (arith, eqb-false (hi h) 0 e); below = ltb-true k (octaves h) there; all = eqb-true n (total_samples h) suits })

module _ (h : VoiceHeader) (k n : ℕ) where
  octave_small : OctaveOf h k n → total_samples h < 2 ^ 64 → k < 64
  octave_small (inl (z, e)) total = omega arith
  octave_small (inr a) total = go (leb (octaves h) 64) refl
    where
      go : (t : Bool) → leb (octaves h) 64 ≡ t → k < 64
      go true e = omega (arith, leb-true (octaves h) 64 e, a.below)
      go false e = absurd (omega (arith, many_octaves h a.some (leb-false (octaves h) 64 e)))

  octave_within : OctaveOf h k n → hi h * (2 ^ k - 1) + hi h * 2 ^ k ≤ n
  octave_within (inl (z, e)) = simp (z, zero-mul) (omega arith)
  octave_within (inr a) = omega (arith, octave_end h k a.below, a.all)

  octave_sole : OctaveOf h k n → hi h ≡ 0 → k ≡ 0
  octave_sole (inl (z, e)) empty = e
  octave_sole (inr a) empty = absurd (omega (arith, a.some))

-- ---- the sequence and its fade

-- a fade's segment is among those of a sequence
fade_among : (fade : Option Fade) (sequence : Option (List SeqnSegment)) (k : ℕ) → fade_misses fade (length (segments_of sequence)) ≡ false
    → joined_length (2 ^ k) (segments_of sequence) < 2 ^ 32 → FadeOn fade sequence k
fade_among None sequence k among short = tt
fade_among (Some f) (Some segments) k among short = short
fade_among (Some f) None k among short = absurd (omega (arith, ltb-true f.segment 0 (not-false (ltb f.segment 0) among)))

pub fade_ends : (v : Voice) (n k velocity : ℕ) →
    let g = gains_of v k velocity in
    g.fades ≡ true → (q i : ℕ) → path_of v.sequence v.header n k q ≡ Some i → q < g.path_length
fade_ends v n k velocity fades q i = go v.sequence refl
  where
    go : (sequence : Option (List SeqnSegment)) → v.sequence ≡ sequence → path_of sequence v.header n k q ≡ Some i → q < (gains_of v k velocity).path_length
    go None e there = let not : (gains_of v k velocity).fades ≡ false = gains_no_fade v k velocity e in impossible cc
    go (Some segments) e there = omega (arith, gains_fade v k velocity segments e fades, sequence_ends segments v.header n k q i there)

-- ---- what none of the rules leaves

module _ (v : Voice) (left right : ℕ) (n : Playing) (frames places : ℕ) (accepted : first_holding (fill_rules v left right n frames places) ≡ Ok tt) where
  parts : NoneOf v left right n frames places
  parts = none_of v left right n frames places accepted

  suits : lengths_suit v.header (is_stereo v.channel) left right ≡ true
  suits = not-false (lengths_suit v.header (is_stereo v.channel) left right) parts.voice.1.1.0

  there : octave_there v.header n.octave ≡ true
  there = not-false (octave_there v.header n.octave) parts.note.0

  pub in_octave_lem : left < 2 ^ 63 → InOctave v.header n.octave left (segments_of v.sequence)
  in_octave_lem small =
      let h = v.header in
      let o = octave_of_lem h n.octave left there (suit_parts h (is_stereo v.channel) left right suits).0 in
      record {
        octave_small = octave_small h n.octave left o (leb-false (2 ^ 64) (total_samples h) parts.voice.1.0);
        samples_small = small;
        octave_within = octave_within h n.octave left o;
        sole_octave = octave_sole h n.octave left o;
        in_order = valid_order (segments_of v.sequence) (hi h) (not-false (all_valid (segments_of v.sequence) (hi h)) parts.sequence.0);
      }

  pub fade_fits : FadeShort v n.octave
  fade_fits =
      let length = joined_length (2 ^ n.octave) (segments_of v.sequence) in
      let short : ltb 4294967295 length ≡ false = rw there at parts.octave.0 in
      fade_among v.fade v.sequence n.octave parts.sequence.1.1.0 (omega (arith, ltb-false 4294967295 length short))

  pub sides_same : is_stereo v.channel ≡ true → left ≡ right
  sides_same two = sym (eqb-true right left (rw two at (suit_parts v.header (is_stereo v.channel) left right suits).1))

  pub even_places : places % 2 ≡ 0
  even_places = omega (arith, eqb-false (places % 2) 1 parts.even.0)

  pub slow_step : n.step ≤ 16777216
  slow_step = ltb-false 16777216 n.step (neither (eqb n.step 0) (ltb 16777216 n.step) parts.note.1.0).1

  -- the rate isn't refused
  rate_taken : (eqb n.rate 0 ≡ false) × (ltb 192000 n.rate ≡ false)
  rate_taken = neither (eqb n.rate 0) (ltb 192000 n.rate) parts.note.1.1.0

  pub some_rate : 0 < n.rate
  some_rate = omega (arith, eqb-false n.rate 0 rate_taken.0)

  pub slow_rate : n.rate ≤ 192000
  slow_rate = ltb-false 192000 n.rate rate_taken.1

  pub key_up_then : key_up_ahead n.key frames ≡ false
  key_up_then = parts.note.1.1.1.0

  pub most_velocity : n.velocity ≤ 127
  most_velocity = ltb-false 127 n.velocity (neither (eqb n.velocity 0) (ltb 127 n.velocity) parts.note.1.1.1.1.0).1
