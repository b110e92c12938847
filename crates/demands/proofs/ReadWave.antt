-- An octave of a read voice as WAVE.
-- Assumes nothing.
use Prim.Native.Nat.{ℕ, ◌^◌}
use mathlib.Core.Bool.{not}
use mathlib.Core.List.{◌++◌}
use mathlib.Core.Path.{ap}
use borrow.Author.Tests.{lt-leb}
use Rattle.header.specs.Octaves.{total_samples}
use Rattle.voice_read.specs.ReadVoice.{Reading}
use Rattle.wave.proofs.ReadBack.{reads_back}
use Rattle.wave.proofs.WaveLaws.{before19, wave_is}
use Rattle.wave.specs.Wave.{octave_contents, octave_file, length_rules, octave_wave}
use Rattle.demands.specs.Demand2.{Acceptable}
use Rattle.demands.specs.ReadWave.{read_wave_refusals, ReadWave}
use Rattle.demands.proofs.Accepted.{read_sound}
use Rattle.demands.proofs.Demand2.{demand2}
use Rattle.demands.proofs.FillRefusals.{known_byte}
use Rattle.demands.proofs.RefusalLaws.{Within, rules_within, refused_by}

read_within : (r : Reading) (k : ℕ) → Acceptable r → Within read_wave_refusals (octave_wave r.voice r.sides k)
read_within r k sound =
    let h = r.voice.header in
    let contents = octave_contents r.voice r.sides k in
    let known = known_byte h.compression_byte sound.known.0 sound.known.1 in
    let total = lt-leb (2 ^ 64) (total_samples h) sound.total in
    let suits = ap not sound.lengths_suit_lem in
    rw (wave_is r.voice r.sides k)
    (rules_within read_wave_refusals (before19 r.voice r.sides k ++ length_rules contents) (octave_file r.voice r.sides k) (known, (total, (suits, tt))))

pub read_wave : ReadWave
read_wave = record {
  refused_by = λ file r k n bytes e. refused_by read_wave_refusals (octave_wave r.voice r.sides k) n (read_within r k (read_sound file r bytes e));
  reads_back = λ file r k wave bytes e.
      let samples = demand2.samples file r e in
      reads_back r.voice r.sides k wave (read_sound file r bytes e).allowed.header samples.0 samples.1;
}
