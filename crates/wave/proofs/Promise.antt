-- What is promised of an octave's WAVE file.
-- Assumes nothing.
use Prim.Native.Nat.{ℕ}
use mathlib.Core.Bool.{false}
use mathlib.Core.List.{List, [], ◌∷◌, ◌++◌}
use mathlib.Core.Path.{◌≡◌, refl, sym, ◌∙◌}
use lib.IntN.{negsuc}
use lib.ListN.{length}
use Rattle.refusal.proofs.RuleLaws.{answered_by}
use Rattle.refusal.specs.Rules.{first_holding, with_buffer, unless_refused, numbers_of}
use Rattle.field.specs.BigEndian.{Bytes, big_endian_bytes}
use Rattle.field.specs.LittleEndian.{little_endian_bytes}
use Rattle.field.specs.Signed.{Samples}
use Rattle.chunk.specs.ChunkBytes.{pad}
use Rattle.body_read.specs.Sides.{Sides}
use Rattle.sheet.proofs.SoundLaws.{if_sound_lem, gives_sound}
use Rattle.sheet.specs.Read.{read_sheet}
use Rattle.sheet.specs.Voice.{Voice}
use Rattle.sheet_grammar.proofs.Theorem.{allowed_read}
use Rattle.wave.proofs.ReadBack.{reads_back}
use Rattle.wave.proofs.WaveLaws.{before19, rules_are, wave_is}
use Rattle.wave.specs.Promise.{one_sample_file, Promise}
use Rattle.wave.specs.ReadBack.{ReadBack}
use Rattle.wave.specs.Riff.{riff, riff_head, riff_chunk, format_bytes, wave_contents}
use Rattle.wave.specs.Wave.{value_of, values_of, octave_contents, octave_file, length_rules, wave_rules, octave_wave, octave_wave_of}
use Rattle.refusal.specs.Outcome.{answer}
use Rattle.std.specs.Prelude.{Ok}

sheets_back : (sheet : List ℕ) (s : Sides) (k : ℕ) (file : List ℕ) → Bytes sheet → Samples s.left → Samples s.right
    → octave_wave_of sheet s k ≡ Ok file → ReadBack (read_sheet sheet) s k file
sheets_back sheet s k file bytes ls rs w =
    let v = read_sheet sheet in
    let sound = gives_sound sheet (octave_wave v s k) file w in
    reads_back v s k file (allowed_read sheet bytes sound).header ls rs (sym (if_sound_lem sheet (octave_wave v s k) sound) ∙ w)

-- ---- examples

minus_two : value_of (negsuc 1) ≡ 126
unfolding value_of
minus_two = refl

one_sample_lem : riff_chunk riff (wave_contents 1 8000 (values_of false (negsuc 1 ∷ []) [])) ≡ one_sample_file
unfolding riff_chunk riff_head wave_contents format_bytes values_of value_of pad big_endian_bytes little_endian_bytes
one_sample_lem = refl

-- ---- the rules

order : (v : Voice) (s : Sides) (k places : ℕ)
    → numbers_of (with_buffer (wave_rules v s k) (octave_file v s k) places) ≡ 10 ∷ 13 ∷ 18 ∷ 31 ∷ 41 ∷ 19 ∷ 20 ∷ []
order v s k places = rw (rules_are v s k) refl

answered : (v : Voice) (s : Sides) (k places : ℕ)
    → answer (octave_wave v s k) places ≡ unless_refused (first_holding (with_buffer (wave_rules v s k) (octave_file v s k) places)) (length (octave_file v s k))
answered v s k places =
    let rules = before19 v s k ++ length_rules (octave_contents v s k) in
    rw (wave_is v s k, rules_are v s k) (answered_by rules (octave_file v s k) places)

pub promise : Promise
promise = record {
  voices_back = reads_back;
  sheets_back = sheets_back;
  minus_two = minus_two;
  one_sample_lem = one_sample_lem;
  order = order;
  answered = answered;
}
