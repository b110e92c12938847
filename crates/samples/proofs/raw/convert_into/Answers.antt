use native.Mathlib.Omega.{arith}
use lib.ListN.{get_or}
use mathlib.Core.Path.{◌≡◌, ap, ◌∙◌}
use Rattle.laws.proofs.Prefix.{prefix_map}
use Rattle.samples.proofs.raw.convert_into.Goals as goal

pub loop-i-preserved : goal.loop-i-preserved
loop-i-preserved g c =
    let x = c.index-from-i.result in
    let value : c.convert.result ≡ g.f x = c.requires.1.1.1.1 x c.convert.result c.convert.ensures in
    let at : x ≡ get_or c.args.from.now c.loop-i.i x = c.index-from-i.is in
    prefix_map g.f c.args.from.now c.args.out.now c.loop-i.out c.loop-i.i x _ (omega arith) (omega arith) c.loop-i.invariant (value ∙ ap g.f at)
