-- `note_frame::shares::pan_else` meets its contract: what is held within 65,536 may be taken from it.
use mathlib.Core.Path.{◌≡◌, ap, ◌∙◌}
use native.Mathlib.Omega.{arith}
use mir.Syntax.{w32}
use mir.Val.{SFits}
use mir.Facts.{to_z-of_z}
use borrow.Author.Rules.{rules}
use Rattle.small_chunks.specs.Pan.{held_to_unity}
use Rattle.small_chunks.proofs.PanLaws.{held_le}
use Rattle.note_frame.proofs.shares.pan_else.Goals as goal

-- a signed field goes to the callee as its bits, read back
said : (c : goal.After-held_to_unity-left) → c.held_to_unity-left.result ≡ held_to_unity c.in-Some.p.position
said c =
    let position_fits : SFits w32 c.in-Some.p.position = search rules in
    c.held_to_unity-left.ensures ∙ ap held_to_unity (to_z-of_z position_fits)

pub overflow_sub-right : goal.overflow_sub-right
overflow_sub-right c = omega (arith, said c, held_le c.in-Some.p.position)
