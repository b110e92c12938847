-- `voice_read::chunks::write_outputs` meets its contract: the sheet is stored from the front on, and the sides are those of the FORM.
use mathlib.Core.Path.{◌≡◌}
use Rattle.laws.proofs.PutLaws.{put_front}
use Rattle.chunk.specs.Chunk.{items_from}
use Rattle.form.specs.Find.{first_of}
use Rattle.form.specs.Names.{body}
use Rattle.sheet_read.specs.FormVoice.{form_voice}
use Rattle.sheet.specs.Read.{body_of}
use Rattle.sheet.specs.Voice.{is_stereo}
use Rattle.body_read.specs.Sides.{body_sides}
use Rattle.voice_read.proofs.chunks.write_outputs.Goals as goal

-- `sides_are`: the sides, by what was read of the FORM
pub returns : goal.returns
returns c =
    let items = items_from c.args.form.now 12 in
    let sides_are
    : body_sides c.header_of-h.result c.is_stereo-stereo.result c.body_of.result.now
    ≡ body_sides (form_voice items).header (is_stereo (form_voice items).channel) (body_of (first_of body items))
    = rw (c.header_of-h.ensures, c.is_stereo-stereo.ensures, c.body_of.ensures) in
    let sides = rw sides_are at c.decode_sides.ensures in
    record { sheet = put_front c.requires.1 c.put_sheet.ensures; left = sides.left; right = sides.right }
