-- `voice_write::encode::write_file` meets its contract: a file that is there has a sound sheet and a known compression.
use mathlib.Core.Path.{◌≡◌, sym, ◌∙◌}
use lib.ListN.{length}
use Rattle.header.specs.Compression.{known_compression}
use Rattle.refusal.proofs.OutcomeLaws.{outcome_refused}
use Rattle.sheet.proofs.SoundLaws.{if_sound_lem}
use Rattle.sheet.specs.Read.{read_sheet}
use Rattle.voice_write.specs.WriteVoice.{write_voice, write_sheet}
use Rattle.voice_write.proofs.RoomLaws.{room_sound}
use Rattle.voice_write.proofs.WriteLaws.{sides_of, voice_unknown}
use Rattle.voice_write.proofs.encode.write_file.Goals as goal
use Rattle.std.specs.Prelude.{Err}

pub returns-in_default : goal.returns-in_default
returns-in_default c =
    let a = c.args in
    let v = read_sheet a.sheet.now in
    let k = sides_of a.left.now a.right.now in
    let o = write_sheet a.sheet.now k in
    let n = c.in_default.field-0 in
    let unknown : known_compression v.header.compression_byte ≡ Err n =
    rw c.sheet_header.ensures at (sym c.compression.ensures ∙ c.in_default.is) in
    let accepted = room_sound a.sheet.now k a.n (length a.file.now) c.requires in
    (outcome_refused o a.file.now n (if_sound_lem a.sheet.now (write_voice v k) accepted ∙ voice_unknown v k n unknown)).1
