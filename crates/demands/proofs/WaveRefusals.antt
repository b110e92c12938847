-- The refusals of an octave as WAVE: those of its rules, and of its sheet.
-- Assumes nothing.
use Prim.Native.Nat.{ℕ}
use mathlib.Core.List.{List, ◌++◌}
use Rattle.body_read.specs.Sides.{Sides}
use Rattle.sheet.specs.Read.{read_sheet}
use Rattle.sheet.specs.Voice.{Voice}
use Rattle.wave.proofs.WaveLaws.{before19, wave_is}
use Rattle.wave.specs.Wave.{octave_contents, octave_file, length_rules, octave_wave, octave_wave_of}
use Rattle.demands.specs.Demand1.{wave_refusals}
use Rattle.demands.proofs.RefusalLaws.{Within, rules_within}
use Rattle.demands.proofs.WriteRefusals.{if_sound_within}

voice_within : (v : Voice) (s : Sides) (k : ℕ) → Within wave_refusals (octave_wave v s k)
voice_within v s k = rw (wave_is v s k) (rules_within wave_refusals (before19 v s k ++ length_rules (octave_contents v s k)) (octave_file v s k) tt)

pub wave_within : (sheet : List ℕ) (s : Sides) (k : ℕ) → Within wave_refusals (octave_wave_of sheet s k)
wave_within sheet s k = if_sound_within wave_refusals tt sheet (octave_wave (read_sheet sheet) s k) (voice_within (read_sheet sheet) s k)
