-- `voice_write::measure::sound_length` meets its contract: the match says whether the compression is known.
use mathlib.Core.Path.{◌≡◌, sym, ap, ◌∙◌}
use Rattle.std.proofs.lemmas.Result.{err_from_is_err_and}
use Rattle.header.specs.Compression.{known_compression}
use Rattle.sheet.specs.Read.{read_sheet}
use Rattle.voice_write.proofs.WriteLaws.{sides_of, voice_unknown}
use Rattle.voice_write.proofs.measure.sound_length.Goals as goal
use Rattle.refusal.specs.Outcome.{length_of}
use Rattle.std.specs.Prelude.{Err}

pub returns-in_err-c : goal.returns-in_err-c
returns-in_err-c c =
    let a = c.args in
    let n = c.in_err-c.field-0.0 in
    let v = read_sheet a.sheet.now in
    let unknown : known_compression v.header.compression_byte ≡ Err n =
    rw c.sheet_header.ensures at (sym c.compression.ensures ∙ c.in_err-c.was) in
    let p = err_from_is_err_and c.from_residual.result c.from_residual.ensures.1 in
    rw (p.1, p.2) (sym (ap length_of (voice_unknown v (sides_of a.left.now a.right.now) n unknown)))
