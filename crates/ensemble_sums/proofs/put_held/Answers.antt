-- `ensemble_sums::put_held` meets its contract: each sum is held, from the front on, and then all are cleared.
use mathlib.Core.Path.{ap, ◌∙◌}
use native.Mathlib.Omega.{arith}
use borrow.Author.Rules.{rules}
use lib.IntN.{pos}
use lib.ListN.{get_or, length-map}
use mathlib.Core.List.{map}
use mir.Syntax.{w16, w32}
use mir.Val.{SFits}
use mir.Facts.{to_z-of_z}
use Rattle.laws.proofs.Prefix.{prefix_map}
use Rattle.laws.proofs.Signed.{back}
use Rattle.ensemble_sums.specs.Sums.{held_to16}
use Rattle.ensemble_sums.proofs.SumLaws.{all_written}
use Rattle.ensemble_sums.proofs.put_held.Goals as goal

pub loop-i-preserved : goal.loop-i-preserved
loop-i-preserved c =
    let l = c.loop-i in
    let fits : SFits w32 (get_or c.args.sums.now l.i (pos 0)) = search rules in
    prefix_map held_to16 c.args.sums.now c.args.out.now l.out l.i (pos 0) _ c.loop-i-test.true (omega arith) l.invariant
    (back w16 c.held.type_inv ∙ c.held.ensures ∙ ap held_to16 (to_z-of_z fits))

pub returns-clause-out : goal.returns-clause-out
returns-clause-out c =
    let a = c.args in
    let l = c.loop-i in
    l.invariant ∙ all_written (map held_to16 a.sums.now) a.out.now l.i (omega (arith, length-map a.sums.now held_to16)) (omega arith)
