-- `note_calls::one_call` meets its contract: a key-up puts nothing out; a fill's block and answer are stored where those before it end.
use mathlib.Core.Path.{sym, ◌∙◌}
use Rattle.body_read.specs.Sides.{Sides}
use Rattle.laws.proofs.PutLaws.{put_none}
use Rattle.note_calls.proofs.PlayLaws.{key_up_puts, key_up_note, fill_note, fill_put, answer_put}
use Rattle.note_calls.proofs.one_call.Goals as goal

pub returns-then-call-eq-KEY_UP : goal.returns-then-call-eq-KEY_UP
returns-then-call-eq-KEY_UP c =
    let a = c.args in
    let s : Sides = record { left = a.left.now; right = a.right.now } in
    let is = c.if-call-eq-KEY_UP.true in
    let puts = key_up_puts a.sheet.now s a.run.note a.call is in
    record {
      note = c.key_up-note.ensures ∙ sym (key_up_note a.sheet.now s a.run.note a.call is);
      blocks = rw puts (put_none _ _);
      answers = rw puts (put_none _ _);
    }

pub returns : goal.returns
returns c =
    let a = c.args in
    let s : Sides = record { left = a.left.now; right = a.right.now } in
    let isn't = c.if-call-eq-KEY_UP.false in
    let done = c.fill_part-filled.ensures in
    let answer = c.fill_part-filled.result.answer in
    record {
      note = done.note ∙ sym (fill_note a.sheet.now s a.run.note a.call isn't);
      blocks = fill_put a.sheet.now s a.run.note a.call isn't answer done.answer _ _ _ _ done.buffer c.put_out.ensures;
      answers = answer_put a.sheet.now s a.run.note a.call isn't answer done.answer _ _ _ c.answer_number.ensures;
    }
