use Prim.Native.Nat.{ℕ}
use mathlib.Core.Path.{ap, ◌∙◌}
use Rattle.ensemble_block.specs.Stretch.{cut_at}
use Rattle.ensemble_block.proofs.StretchLaws.{stretch_more, stretch_all}
use Rattle.ensemble_rules.proofs.RuleLaws.{blank}
use lib.ListN.{get_or}
use Rattle.ensemble_block.proofs.stretch.stretch_end.Goals as goal

pub loop-e-preserved : goal.loop-e-preserved
loop-e-preserved c =
    let o = c.loop-e in
    let a = c.args in
    let cut = c.cut_at-next.ensures ∙ ap (λ (n : ℕ). cut_at a.at n (get_or a.score.now o.e-index blank).key_up) c.cut_at-before_start.ensures in
    stretch_more a.score.now a.at a.end a.most o.e-index o.next _ c.loop-e-test.true cut o.invariant

pub returns : goal.returns
returns c =
    let o = c.loop-e in
    let a = c.args in
    stretch_all a.score.now a.at a.end a.most o.e-index o.next c.loop-e-test.false o.invariant
