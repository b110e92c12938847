-- What an accepted fill hands to the functions that take its path and its gains from the sheet, and to its block.
--     path_asks, gains_ask     the octave is there, the segments lie within it, and a fade's path is short
--     block_ready              with the path and the gains that were made, a block may be played
-- Assumes nothing.
use Prim.Native.Nat.{ℕ, ◌-◌, ◌/◌, ◌≤◌, ◌<◌, ◌^◌, min}
use mathlib.Core.Bool.{Bool}
use mathlib.Core.List.{List}
use mathlib.Core.Path.{◌≡◌, refl, sym, ap, subst, ◌∙◌}
use native.Mathlib.Omega.{arith}
use lib.IntN.{ℤ}
use lib.ListN.{length, get_or}
use mir.Syntax.{w8}
use mir.Val.{Fits}
use Rattle.header.specs.declared.voice_header.VoiceHeader.{VoiceHeader}
use Rattle.small_chunks.specs.declared.sequence.SeqnSegment.{SeqnSegment}
use Rattle.sheet.specs.Judge.{judged}
use Rattle.sheet.specs.Read.{read_sheet}
use Rattle.sheet_layout.specs.Layout.{layout_of}
use Rattle.sheet_layout.specs.Members.{between, segments_in, Whole}
use Rattle.sheet_layout.specs.declared.Layout.{Layout}
use Rattle.note_path.specs.Path.{path_of}
use Rattle.note_path.specs.Run.{place_of, sequence_in, InOctave, Sane, PathIs}
use Rattle.note_path.specs.declared.run.Path.{Path}
use Rattle.note_frame.specs.declared.chain.Gains.{Gains}
use Rattle.note_frame.specs.Gains.{gains_of, FadeShort}
use Rattle.note_frame.proofs.GainsLaws.{gains_bounded, gains_stereo}
use Rattle.refusal.specs.Rules.{first_holding}
use Rattle.note_frame.specs.declared.playing.Playing.{Playing}
use Rattle.note_rules.specs.Rules.{fill_rules}
use Rattle.note_rules.proofs.SequenceLaws.{part_segments, part_whole}
use Rattle.note_block.specs.Block.{sequence_part, BlockReady}
use Rattle.std.specs.Option.{is_some}
use Rattle.note_block.proofs.SheetLaws.{segments_at, sequence_is}
use Rattle.note_block.proofs.AcceptedLaws.{in_octave_lem, fade_fits, fade_ends, sides_same, slow_step, some_rate, slow_rate, key_up_then, most_velocity}
use Rattle.std.specs.Prelude.{Ok, Option, option_map}

module _ (n : Playing) (frames places : ℕ) (sheet : List ℕ) (l : Layout) (left right : List ℤ) (bytes : (i : ℕ) → Fits w8 (get_or sheet i 0)) (sound : judged sheet ≡ Ok tt)
    (is : l ≡ layout_of (read_sheet sheet)) (accepted : first_holding (fill_rules (read_sheet sheet) (length left) (length right) n frames places) ≡ Ok tt) (small : length left < 2 ^ 63) where
  -- the header that was read
  module _ (h : VoiceHeader) (header : h ≡ (read_sheet sheet).header) where
    pub path_asks : InOctave h n.octave (length left) (segments_in (between l.sequence l.fade sheet)) × Whole 8 8 (between l.sequence l.fade sheet)
    path_asks =
        rw (header, part_segments sheet bytes sound l is) (in_octave_lem (read_sheet sheet) (length left) (length right) n frames places accepted small, part_whole sheet bytes sound l is)

    -- the path that was made
    module _ (answer : Option ℕ) (there : Bool) (path : Path) (answered : answer ≡ option_map length (read_sheet sheet).sequence) (told : there ≡ is_some answer)
        (made : PathIs h n.octave there (length left) (between l.sequence l.fade sheet) path) where
      place_is : (q : ℕ) → place_of path (sequence_part sheet) q ≡ path_of (read_sheet sheet).sequence (read_sheet sheet).header (length left) n.octave q
      place_is q =
          ap (λ (part : List ℕ). place_of path part q) (sym (segments_at sheet bytes sound l is))
          ∙ made.place_is q
          ∙ ap (λ (h : VoiceHeader). path_of (sequence_in there (between l.sequence l.fade sheet)) h (length left) n.octave q) header
          ∙ ap (λ (o : Option (List SeqnSegment)). path_of o (read_sheet sheet).header (length left) n.octave q) (sequence_is sheet bytes sound l is answer there answered told)

      pub block_ready : (g : Gains) (d : ℕ) (out : List ℤ) → g ≡ gains_of (read_sheet sheet) n.octave n.velocity → frames ≤ 4294967295
          → d ≡ min (length out / 2) (4294967295 - frames) → BlockReady n frames sheet l g path left right d out
      block_ready g d out gains_are counted part =
          rw gains_are
          (record {
            sound = sound;
            layout_is = is;
            gains_are = refl;
            bounded = gains_bounded (read_sheet sheet) n.octave n.velocity (most_velocity (read_sheet sheet) (length left) (length right) n frames places accepted);
            sane = subst (Sane path) (segments_at sheet bytes sound l is) made.sane;
            samples_are = made.samples_are;
            place_is = place_is;
            sides_are = λ two. omega (arith, sides_same (read_sheet sheet) (length left) (length right) n frames places accepted (sym (gains_stereo (read_sheet sheet) n.octave n.velocity) ∙ two));
            fade_ends = λ fades q i e. fade_ends (read_sheet sheet) (length left) n.octave n.velocity fades q i (sym (place_is q) ∙ e);
            rate_some = some_rate (read_sheet sheet) (length left) (length right) n frames places accepted;
            rate_fits = slow_rate (read_sheet sheet) (length left) (length right) n frames places accepted;
            step_fits = slow_step (read_sheet sheet) (length left) (length right) n frames places accepted;
            key_then = key_up_then (read_sheet sheet) (length left) (length right) n frames places accepted;
            in_time = omega arith;
            room = omega arith;
          })

  pub gains_ask : (n.octave < 64) × FadeShort (read_sheet sheet) n.octave
  gains_ask = ((in_octave_lem (read_sheet sheet) (length left) (length right) n frames places accepted small).octave_small, fade_fits (read_sheet sheet) (length left) (length right) n frames places accepted)
