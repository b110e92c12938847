-- A turn stores the next byte of either side.
use mathlib.Core.Path.{sym, ◌∙◌}
use Prim.Native.Nat.{◌+◌}
use native.Mathlib.Omega.{arith}
use lib.ListN.{take}
use lib.Seq.{get_or-take, length-take-le}
use Rattle.laws.proofs.Prefix.{prefix_whole}
use Rattle.laws.specs.Turns.{by_turns}
use Rattle.laws.proofs.TurnLaws.{by_turns_length, turn_stored}
use Rattle.body_decode.proofs.interleave_bytes.Goals as goal

pub loop-i-preserved : goal.loop-i-preserved
loop-i-preserved c =
    let l = c.loop-i in
    let a = c.args in
    let ls = take a.n a.left.now in
    let rs = take a.n a.right.now in
    turn_stored ls rs a.out.now l.out l.i 0 _ _
    (rw (length-take-le a.n a.left.now (omega arith)) (omega arith))
    (rw (length-take-le a.n a.right.now (omega arith)) (omega arith))
    (omega arith) l.invariant
    (sym (get_or-take a.n a.left.now l.i 0 (omega arith)))
    (sym (get_or-take a.n a.right.now l.i 0 (omega arith)))

pub returns : goal.returns
returns c =
    let l = c.loop-i in
    let a = c.args in
    let ls = take a.n a.left.now in
    let rs = take a.n a.right.now in
    let long = by_turns_length ls rs a.n (length-take-le a.n a.left.now (omega arith)) (length-take-le a.n a.right.now (omega arith)) in
    l.invariant ∙ prefix_whole (by_turns ls rs) a.out.now (l.i + l.i) (omega (arith, long))
