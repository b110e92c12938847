-- The next value is that of the next sample.
use mathlib.Core.Path.{◌∙◌, ap}
use Prim.Native.Nat.{◌<◌}
use native.Mathlib.Omega.{arith}
use borrow.Author.Rules.{rules}
use lib.IntN.{pos}
use lib.ListN.{get_or}
use lib.Signed.{mag}
use mir.Syntax.{w8}
use Rattle.laws.proofs.Prefix.{prefix_map}
use Rattle.laws.proofs.Signed.{back}
use Rattle.wave.specs.Wave.{value_of}
use Rattle.wave.proofs.values.write_one.Goals as goal

pub loop-i-preserved : goal.loop-i-preserved
loop-i-preserved c =
    let l = c.loop-i in
    let a = c.args in
    let read : mag (get_or a.samples.now l.i (pos 0)) < 128 = search rules in
    let value = c.value_of.ensures ∙ ap value_of (back w8 {z = get_or a.samples.now l.i (pos 0)} read) in
    prefix_map value_of a.samples.now a.out.now l.out l.i (pos 0) _ (omega arith) (omega arith) l.invariant value
