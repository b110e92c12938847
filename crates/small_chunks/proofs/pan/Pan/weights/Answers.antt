-- `Pan::weights` meets its contract. The held position is at most 65,536, so its cast loses nothing, and the literals' bit patterns are the values that `pan_weights` names.
use mathlib.Core.Bool.{false}
use mathlib.Core.Path.{◌≡◌, refl, ap, ◌∙◌}
use Prim.Native.Nat.{◌≤◌, ◌^◌}
use native.Mathlib.Omega.{arith}
use lib.Dec.{le→leb}
use lib.IntN.{pos}
use lib.Ieee.{fin, of_bits, in_float, binary32}
use mir.Syntax.{w32}
use mir.Val.{SFits}
use mir.Facts.{to_z-of_z}
use borrow.Author.Rules.{rules}
use Rattle.small_chunks.specs.Pan.{held_to_unity}
use Rattle.small_chunks.proofs.PanLaws.{held_le}
use Rattle.small_chunks.proofs.pan.Pan.weights.Goals as goal

one : of_bits binary32 1065353216 ≡ fin false 1 (pos 0)
unfolding of_bits
one = refl

full : of_bits binary32 1199570944 ≡ fin false 1 (pos 16)
unfolding of_bits
full = refl

-- a signed field goes to the callee as its bits, read back
said : (c : goal.After-row_known-1) → c.held_to_unity-n.result ≡ held_to_unity c.args.self.position
said c =
    let position_fits : SFits w32 c.args.self.position = search rules in
    c.held_to_unity-n.ensures ∙ ap held_to_unity (to_z-of_z position_fits)

pub int_to_float-left : goal.int_to_float-left
unfolding in_float
int_to_float-left c =
    let small : c.held_to_unity-n.result ≤ 2 ^ 24 = omega (arith, held_le c.args.self.position, said c) in
    le→leb c.held_to_unity-n.result (2 ^ 24) small

pub returns : goal.returns
returns c = simp (said c, one, full)
