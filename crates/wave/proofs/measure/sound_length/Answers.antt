-- `wave::measure::sound_length` meets its contract: the rules before 19 turn the octave back, or its samples say how long the file is.
use Prim.Native.Nat.{◌*◌}
use mathlib.Core.Path.{sym, ap, ap₂, ◌∙◌}
use lib.ListN.{length}
use Rattle.std.proofs.lemmas.Result.{err_from_is_err_and}
use Rattle.refusal.specs.Outcome.{length_of}
use Rattle.body_read.specs.Sides.{Sides}
use Rattle.octaves.specs.Octave.{octave_part}
use Rattle.octaves.specs.Part.{part_of}
use Rattle.sheet.specs.Read.{read_sheet}
use Rattle.wave.specs.Helpers.{length_for}
use Rattle.wave.specs.Wave.{channels_of}
use Rattle.wave.proofs.WaveLaws.{wave_refused, wave_length}
use Rattle.wave.proofs.measure.sound_length.Goals as goal

pub returns-in_err-source_refusal : goal.returns-in_err-source_refusal
returns-in_err-source_refusal c =
    let a = c.args in
    let s : Sides = record { left = a.left.now; right = a.right.now } in
    let p = err_from_is_err_and c.from_residual.result c.from_residual.ensures.1 in
    let stopped = sym c.source_refusal.ensures ∙ c.in_err-source_refusal.was in
    rw (p.1, p.2) (sym (ap length_of (wave_refused (read_sheet a.sheet.now) s a.k _ stopped)))

-- the samples that were counted are the octave's
pub returns : goal.returns
returns c =
    let a = c.args in
    let s : Sides = record { left = a.left.now; right = a.right.now } in
    let none = sym c.source_refusal.ensures ∙ c.in_ok-source_refusal.was in
    let counted = ap length (c.octave-samples.ensures.contents ∙ ap (λ h. part_of (octave_part h (length a.left.now) a.k) a.left.now) c.sheet_header-h.ensures) in
    c.held_length.ensures
    ∙ ap₂ (λ two n. length_for (channels_of two * n)) c.sheet_stereo.ensures counted
    ∙ sym (wave_length (read_sheet a.sheet.now) s a.k none)
