-- A turn's key is that of the nibble at its place, so the lesser of it and the least so far is the least of one key more.
use mathlib.Core.Path.{◌∙◌}
use native.Mathlib.Omega.{arith}
use lib.IntN.{pos}
use lib.ListN.{get_or}
use mir.Syntax.{w8}
use mir.Val.{to_z, of_z}
use Rattle.laws.proofs.Signed.{back}
use Rattle.fibonacci.specs.Helpers.{key_at}
use Rattle.fibonacci.proofs.SearchLaws.{key_of_delta, least_next, least_none}
use Rattle.fibonacci.proofs.search.least_key.Goals as goal

pub loop-i-init : goal.loop-i-init
loop-i-init c = least_none _

pub loop-i-preserved : goal.loop-i-preserved
loop-i-preserved c =
    let i = c.loop-i.i in
    let delta_is = back w8 {z = get_or c.args.deltas.now i (pos 0)} (omega arith) ∙ c.requires.each i (omega arith) in
    let key_is = c.key.ensures ∙ key_of_delta _ _ i _ delta_is in
    let keys = key_at (to_z w8 (of_z w8 c.args.prev)) (to_z w8 (of_z w8 c.args.target)) in
    omega (arith, c.min-least.ensures, key_is, c.loop-i.invariant, least_next keys i)
