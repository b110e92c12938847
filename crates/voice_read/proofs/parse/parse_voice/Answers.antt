-- `voice_read::parse::parse_voice` meets its contract: the lengths say what is read, and each test whether it fits.
use lib.ListN.{length}
use mathlib.Core.Path.{sym, ◌∙◌}
use Rattle.voice_read.proofs.AnswerLaws.{lengths_given, outputs_room, outputs_written}
use Rattle.voice_read.proofs.parse.parse_voice.Goals as goal

-- `measured`: what is read has the lengths that were answered
pub write_outputs-requires : goal.write_outputs-requires
write_outputs-requires c =
    let a = c.args in
    let measured = lengths_given _ _ (sym c.voice_lengths.ensures ∙ c.in_ok-l.was) in
    outputs_room a.file.now c.in_ok-l.l measured c.form.result.now c.form.ensures.contents c.form.ensures.short
    (length a.sheet.now) (length a.left.now) (length a.right.now) c.if-sheet-l.false c.if-left-l.false c.if-right-l.false

pub returns : goal.returns
returns c =
    let a = c.args in
    let o = c.write_outputs.ensures in
    let measured = lengths_given _ _ (sym c.voice_lengths.ensures ∙ c.in_ok-l.was) in
    let w =
    outputs_written a.file.now c.in_ok-l.l measured c.form.result.now c.form.ensures.contents a.sheet.now _ a.left.now _ a.right.now _
    c.if-sheet-l.false c.if-left-l.false c.if-right-l.false o.sheet o.left o.right in
    record { result = w.0; sheet = w.1.0; left = w.1.1.0; right = w.1.1.1 }
