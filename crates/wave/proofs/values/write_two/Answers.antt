-- The next two values are those of the next two samples, and the last two end the values of both channels.
use mathlib.Core.Path.{sym, ap, ◌∙◌}
use mathlib.Core.List.{map}
use Prim.Native.Nat.{◌+◌, ◌<◌}
use native.Mathlib.Omega.{arith}
use borrow.Author.Rules.{rules}
use lib.IntN.{pos}
use lib.ListN.{length, get_or, length-map, get_or-map}
use lib.Signed.{mag}
use mir.Syntax.{w8}
use Rattle.laws.proofs.Prefix.{prefix_whole}
use Rattle.laws.proofs.Signed.{back}
use Rattle.laws.proofs.TurnLaws.{by_turns_length, turn_stored}
use Rattle.laws.specs.Turns.{by_turns}
use Rattle.wave.specs.Wave.{value_of}
use Rattle.wave.proofs.values.write_two.Goals as goal

pub loop-i-preserved : goal.loop-i-preserved
loop-i-preserved c =
    let l = c.loop-i in
    let a = c.args in
    let left = a.left.now in
    let right = a.right.now in
    let read_left : mag (get_or left l.i (pos 0)) < 128 = search rules in
    let read_right : mag (get_or right l.i (pos 0)) < 128 = search rules in
    let first = c.value_of.ensures ∙ ap value_of (back w8 {z = get_or left l.i (pos 0)} read_left) in
    let second = c.value_of-in-loop-i.ensures ∙ ap value_of (back w8 {z = get_or right l.i (pos 0)} read_right) in
    turn_stored (map value_of left) (map value_of right) a.out.now l.out l.i (value_of (pos 0)) _ _
    (rw (length-map left value_of) (omega arith))
    (rw (length-map right value_of) (omega arith))
    (omega arith) l.invariant
    (first ∙ sym (get_or-map value_of left l.i (pos 0)))
    (second ∙ sym (get_or-map value_of right l.i (pos 0)))

pub returns : goal.returns
returns c =
    let l = c.loop-i in
    let a = c.args in
    let left = a.left.now in
    let right = a.right.now in
    let long = by_turns_length (map value_of left) (map value_of right) (length left) (length-map left value_of) (length-map right value_of ∙ omega arith) in
    l.invariant ∙ prefix_whole (by_turns (map value_of left) (map value_of right)) a.out.now (l.i + l.i) (omega (arith, long))
