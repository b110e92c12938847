-- `note::Note::fill_sound` meets its contract: the rules' number decides, and an accepted block is `next_block`'s.
use Prim.Native.Nat.{◌/◌}
use mathlib.Core.List.{List}
use mathlib.Core.Path.{sym, ap, ◌∙◌}
use lib.IntN.{ℤ}
use lib.ListN.{length}
use Rattle.body_read.specs.Sides.{Sides}
use Rattle.sheet.specs.Read.{read_sheet}
use Rattle.note_frame.specs.Frame.{frame}
use Rattle.note_frame.specs.declared.chain.Frame.{Frame}
use Rattle.note_frame.proofs.FramesLaws.{frames_length}
use Rattle.note.specs.Note.{advance_of}
use Rattle.note.specs.declared.Note.{Note}
use Rattle.note.specs.Fill.{FillResult, fill_leaves}
use Rattle.note.proofs.FillLaws.{fill_refused, fill_accepted}
use Rattle.note.proofs.Note.fill_sound.Goals as goal
use Rattle.refusal.specs.Outcome.{Outcome}
use Rattle.std.specs.Prelude.{Ok}

-- what is left, by the outcome
abbrev left_by : Note → List ℤ → Outcome (List Frame) → FillResult
left_by n buffer o = fill_leaves o n buffer

pub returns-in-Err : goal.returns-in-Err
returns-in-Err c =
    let a = c.args in
    let s : Sides = record { left = a.left.now; right = a.right.now } in
    let e = fill_refused (read_sheet a.sheet.now) s a.self.playing a.self.frames (length a.out.now) _ (sym c.fill_refusal.ensures ∙ c.in-Err.is) in
    let same = sym (ap (left_by a.self a.out.now) e) in
    record { answer = ap (λ (x : FillResult). x.answer) same; note = ap (λ (x : FillResult). x.note) same; buffer = ap (λ (x : FillResult). x.buffer) same }

pub returns : goal.returns
returns c =
    let a = c.args in
    let v = read_sheet a.sheet.now in
    let s : Sides = record { left = a.left.now; right = a.right.now } in
    let e = fill_accepted v s a.self.playing a.self.frames (length a.out.now) (sym c.fill_refusal.ensures ∙ c.in_default.is) in
    let same = sym (ap (left_by a.self a.out.now) e) in
    let done = c.next_block-count.ensures in
    let count = frames_length (frame v s a.self.playing) a.self.frames (length a.out.now / 2) in
    let after = c.advance-note.ensures ∙ ap (advance_of a.self) (sym count) in
    record {
      answer = ap Ok done.result ∙ ap (λ (x : FillResult). x.answer) same;
      note = after ∙ ap (λ (x : FillResult). x.note) same;
      buffer = done.buffer ∙ ap (λ (x : FillResult). x.buffer) same;
    }
