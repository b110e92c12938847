-- What the subsequence that stands at the place adds to the length, by `capped_step`.
use lib.ListN.{length}
use mathlib.Core.Path.{sym, ap, ◌∙◌}
use native.Mathlib.Omega.{arith}
use Rattle.text.proofs.LengthLaws.{capped_step, lossy_end}
use Rattle.text_utf8.proofs.SpanLaws.{step_says}
use Rattle.text.proofs.length.lossy_len.Goals as goal

pub loop-part-preserved : goal.loop-part-preserved
loop-part-preserved c =
    let w = step_says _ _ (sym c.step_at.ensures ∙ c.in-Some.is) in
    (rw c.min-n.ensures (capped_step w _ _ (ap length c.replaced-size.ensures) ∙ c.loop-part.invariant.0), omega arith)

pub returns : goal.returns
returns c =
    let none = ap length (lossy_end _ _ (step_says _ _ (sym c.step_at.ensures ∙ c.in_default.is)).0) in
    omega arith
