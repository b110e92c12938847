-- What the subsequence that stands at the place says of `trim_start` from there on.
use mathlib.Core.Path.{refl, sym, ◌∙◌}
use native.Mathlib.Omega.{arith}
use Rattle.text.proofs.PlaceLaws.{start_here, start_later, start_end}
use Rattle.text_utf8.proofs.SpanLaws.{step_says}
use borrow.Author.Rules.{rules}
use Rattle.std.specs.Prelude.{None}
use Rattle.text_utf8.specs.Step.{subsequences_from}
use Rattle.text.proofs.part.text_start.Goals as goal

pub loop-part-init : goal.loop-part-init
unfolding subsequences_from
loop-part-init c = (refl, omega arith)

pub loop-part-preserved : goal.loop-part-preserved
loop-part-preserved c =
    let w = step_says _ _ (sym c.step_at.ensures ∙ c.in-Some.is) in
    let inv = c.loop-part.invariant in
    (sym (start_later w (sym c.is_white_part.ensures ∙ c.if-is_white_part.true)) ∙ inv.0, w.inside)

pub returns-in-loop-part : goal.returns-in-loop-part
returns-in-loop-part c =
    let inv = c.loop-part.invariant in
    (sym (start_end (step_says _ _ {step = None} (search rules)).0) ∙ inv.0, inv.1)

pub returns-else-is_white_part : goal.returns-else-is_white_part
returns-else-is_white_part c =
    let w = step_says _ _ (sym c.step_at.ensures ∙ c.in-Some.is) in
    let inv = c.loop-part.invariant in
    (sym (start_here w (sym c.is_white_part.ensures ∙ c.if-is_white_part.false)) ∙ inv.0, inv.1)
