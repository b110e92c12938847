-- `Pan::write` meets its contract, by those of its two calls.
use mathlib.Core.Path.{◌∙◌}
use mir.Syntax.{w32}
use mir.Val.{SFits}
use mir.Facts.{to_z-of_z}
use borrow.Author.Rules.{rules}
use Rattle.small_chunks.specs.Pan.{pan_bytes}
use Rattle.small_chunks.proofs.pan.Pan.write.Goals as goal

pub returns : goal.returns
unfolding pan_bytes
returns c =
    let position_fits : SFits w32 c.args.self.position = search rules in
    c.bytes32.ensures ∙ rw (c.bits_of_i32.ensures, to_z-of_z position_fits)
