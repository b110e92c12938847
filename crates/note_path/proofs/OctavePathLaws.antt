-- The path of octave k, and that the numbers that `path_of` makes are those of it.
--     path_sequence, path_samples, path_loop     by what the voice has: no other law unfolds `path_of`
--     path_none                                  with no octave: all samples are a one-shot part
--     octave_fits, path_some                     with one: its parts lie within the samples, after the octaves before it
-- Assumes nothing.
use Prim.Native.Nat.{ℕ, ◌+◌, ◌-◌, ◌*◌, ◌≤◌, ◌^◌}
use mathlib.Core.Bool.{Bool, true, false}
use mathlib.Core.List.{List, [], ◌∷◌}
use mathlib.Core.Path.{◌≡◌, refl, sym, ◌∙◌}
use native.Mathlib.Nat.{mul-le-mul_right, zero-mul, add-mul}
use native.Mathlib.Omega.{arith}
use borrow.Author.Tests.{eq-eqb, ne_eqb}
use Rattle.header.specs.Octaves.{hi}
use Rattle.header.specs.declared.voice_header.VoiceHeader.{VoiceHeader}
use Rattle.small_chunks.specs.declared.sequence.SeqnSegment.{SeqnSegment}
use Rattle.sheet_layout.specs.Members.{segments_in, Whole}
use Rattle.note_path.specs.Path.{segments_path, loop_path, samples_path, octave_start, path_of}
use Rattle.note_path.specs.Run.{place_of, Within, InOrder, InOctave, PathIs, sequence_in}
use Rattle.note_path.specs.declared.run.Path.{Path}
use Rattle.note_path.proofs.RunLaws.{place_sequence, place_loop}
use Rattle.note_path.proofs.TurnLaws.{loop_once}
use Rattle.std.specs.Prelude.{None, Some}

-- ---- the path, by what the voice has

module _ (h : VoiceHeader) (n k q : ℕ) where
  pub path_sequence : (segments : List SeqnSegment) → path_of (Some segments) h n k q ≡ segments_path (octave_start h k) (2 ^ k) segments q
  unfolding path_of
  path_sequence segments = refl

  path_samples : hi h ≡ 0 → path_of None h n k q ≡ samples_path n q
  unfolding path_of
  path_samples z = rw (eq-eqb (hi h) 0 z)

  path_loop : (hi h ≡ 0 → ⊥) → path_of None h n k q ≡ loop_path (octave_start h k) (h.one_shot_hi_samples * 2 ^ k) (h.repeat_hi_samples * 2 ^ k) q
  unfolding path_of
  path_loop nz = rw (ne_eqb (hi h) 0 nz)

-- ---- the path in numbers

-- segments within the highest octave lie within the octave's samples
order_within : (first scale n h : ℕ) (ss : List SeqnSegment) → InOrder h ss → first + h * scale ≤ n → Within first scale n ss
order_within first scale n h [] o l = tt
order_within first scale n h (s ∷ ss) o l = (o.0, omega (arith, mul-le-mul_right scale o.1), order_within first scale n h ss o.2 l)

module _ (h : VoiceHeader) (k : ℕ) (sequence : Bool) (samples : ℕ) (part : List ℕ) (scale : ℕ) (e : scale ≡ 2 ^ k)
    (o : InOctave h k samples (segments_in part)) (w : Whole 8 8 part) where
  -- numbers whose start and loop are the octave's
  same_place : (p : Path) → p.sequence ≡ sequence → p.scale ≡ scale → p.first ≡ octave_start h k
      → ((q : ℕ) → loop_path p.first p.one_shot p.repeat q ≡ path_of None h samples k q)
      → (q : ℕ) → place_of p part q ≡ path_of (sequence_in sequence part) h samples k q
  same_place p e₁ e₂ e₃ loop q = go sequence e₁
    where
      go : (there : Bool) → p.sequence ≡ there → place_of p part q ≡ path_of (sequence_in there part) h samples k q
      go true t = place_sequence p part q t ∙ rw (e₃, e₂, e) (sym (path_sequence h samples k q (segments_in part)))
      go false t = place_loop p part q t ∙ loop q

  -- with no octave
  pub path_none : hi h ≡ 0 → PathIs h k sequence samples part (record { first = 0; scale = scale; one_shot = samples; repeat = 0; samples = samples; sequence = sequence })
  path_none z =
      record {
        sane = record { small = o.samples_small; looped = omega arith; segments = order_within 0 scale samples (hi h) (segments_in part) o.in_order (rw (z, zero-mul) (omega arith)); whole = w };
        samples_are = refl;
        place_is = same_place _ refl refl (rw (z, zero-mul)) (λ q. loop_once samples q ∙ sym (path_samples h samples k q z));
      }

  -- with one, n samples long in the highest octave: its parts lie within the samples
  module _ (n : ℕ) (ne : n ≡ hi h) where
    pub octave_fits : n * (scale - 1) + (h.one_shot_hi_samples * scale + h.repeat_hi_samples * scale) ≤ samples
    octave_fits = rw (← add-mul h.one_shot_hi_samples h.repeat_hi_samples scale, ne, e) o.octave_within

    pub path_some : (n ≡ 0 → ⊥)
        → PathIs h k sequence samples part (record {
          first = n * (scale - 1);
          scale = scale;
          one_shot = h.one_shot_hi_samples * scale;
          repeat = h.repeat_hi_samples * scale;
          samples = samples;
          sequence = sequence;
        })
    path_some nz =
        record {
          sane = record {
            small = o.samples_small;
            looped = octave_fits;
            segments = order_within (n * (scale - 1)) scale samples (hi h) (segments_in part) o.in_order (rw (ne, e) o.octave_within);
            whole = w;
          };
          samples_are = refl;
          place_is = same_place _ refl refl (rw (ne, e)) (λ q. rw (ne, e) (sym (path_loop h samples k q (λ z. nz (ne ∙ z)))));
        }
