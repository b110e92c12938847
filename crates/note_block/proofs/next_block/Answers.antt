-- `note_block::next_block` meets its contract: the frames that aren't over are played, and the rest is silence.
use Prim.Native.Nat.{◌%◌, ◌≤◌}
use mathlib.Core.Path.{◌≡◌, refl}
use native.Mathlib.Omega.{arith}
use lib.ListN.{length}
use Rattle.sheet.specs.Read.{read_sheet}
use Rattle.body_read.specs.Sides.{Sides}
use Rattle.note_frame.proofs.FrameLaws.{frame_last}
use Rattle.note_block.proofs.AcceptedLaws.{even_places}
use Rattle.note_block.proofs.WholeLaws.{whole_count, whole_buffer}
use Rattle.note_block.proofs.next_block.Goals as goal

pub returns : goal.returns
returns c =
    let a = c.args in
    let counted : a.frames ≤ 4294967295 = omega (arith, c.ranges.frames) in
    let even : length a.out.now % 2 ≡ 0 = even_places (read_sheet a.sheet.now) (length a.left.now) (length a.right.now) a.n _ _ c.requires.2 in
    let sides : Sides = record { left = a.left.now; right = a.right.now } in
    let last = frame_last (read_sheet a.sheet.now) sides a.n in
    let block = c.sounding_block-count in
    record {
      result = whole_count _ _ _ _ _ _ last counted even refl block.ensures;
      buffer = whole_buffer _ _ _ _ _ _ last counted even refl block.ensures _ block.auto.out c.silence_from.ensures;
    }
