-- `voice_write::measure::known_length` meets its contract: the match says whether the total fits 64 bits, and the test whether the lengths suit.
use mathlib.Core.Bool.{true, false}
use mathlib.Core.Path.{◌≡◌, sym, ap, ◌∙◌}
use Rattle.std.proofs.lemmas.Result.{err_from_is_err_and}
use Rattle.header.proofs.OctaveLaws.{total_is, total_not}
use Rattle.header.specs.Octaves.{total}
use Rattle.sheet.specs.Read.{read_sheet}
use Rattle.voice_write.proofs.WriteLaws.{sides_of, suited, voice_octaves, voice_unsuited, voice_suited}
use Rattle.voice_write.proofs.measure.known_length.Goals as goal
use Rattle.refusal.specs.Outcome.{length_of}
use Rattle.std.specs.Prelude.{Err, Ok}

-- `summed` says that the total fits, or that it doesn't, and `tested` whether the lengths suit
pub returns-then-suited : goal.returns-then-suited
returns-then-suited c =
    let a = c.args in
    let v = read_sheet a.sheet.now in
    let k = sides_of a.left.now a.right.now in
    let n = c.in_ok-total_samples_per_channel.field-0 in
    let summed : total v.header ≡ Ok n = rw c.sheet_header-h.ensures at (sym c.total_samples_per_channel.ensures ∙ c.in_ok-total_samples_per_channel.was) in
    let tested : suited v k ≡ true = rw (c.sheet_header-h.ensures, c.sheet_stereo.ensures) at (sym c.is_suited-suited.ensures ∙ c.if-suited.true) in
    rw (voice_suited v k a.c c.requires.1 (total_is v.header n summed).0 tested) c.suited_length.ensures

pub returns-in_err-total_samples_per_channel : goal.returns-in_err-total_samples_per_channel
returns-in_err-total_samples_per_channel c =
    let a = c.args in
    let v = read_sheet a.sheet.now in
    let n = c.in_err-total_samples_per_channel.field-0.0 in
    let summed : total v.header ≡ Err n = rw c.sheet_header-h.ensures at (sym c.total_samples_per_channel.ensures ∙ c.in_err-total_samples_per_channel.was) in
    let large = total_not v.header n summed in
    let p = err_from_is_err_and c.from_residual.result c.from_residual.ensures.1 in
    rw (p.1, p.2) (ap Err (sym large.1) ∙ sym (ap length_of (voice_octaves v (sides_of a.left.now a.right.now) a.c c.requires.1 large.0)))

pub returns : goal.returns
returns c =
    let a = c.args in
    let v = read_sheet a.sheet.now in
    let k = sides_of a.left.now a.right.now in
    let n = c.in_ok-total_samples_per_channel.field-0 in
    let summed : total v.header ≡ Ok n = rw c.sheet_header-h.ensures at (sym c.total_samples_per_channel.ensures ∙ c.in_ok-total_samples_per_channel.was) in
    let tested : suited v k ≡ false = rw (c.sheet_header-h.ensures, c.sheet_stereo.ensures) at (sym c.is_suited-suited.ensures ∙ c.if-suited.false) in
    sym (ap length_of (voice_unsuited v k a.c c.requires.1 (total_is v.header n summed).0 tested))
