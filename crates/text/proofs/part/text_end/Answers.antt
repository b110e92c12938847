-- What the subsequence that stands at the place says of `text_end` from there on.
use mathlib.Core.Path.{sym, ap, ◌∙◌}
use native.Mathlib.Omega.{arith}
use Rattle.std.proofs.lemmas.Bool.{not-true}
use Rattle.text.proofs.PlaceLaws.{ill_formed_not_white, end_not_white, end_white_lem}
use Rattle.text.specs.Place.{text_end}
use Rattle.text_utf8.proofs.SpanLaws.{step_says}
use Rattle.text.proofs.part.text_end.Goals as goal
use Rattle.text.proofs.part.text_end.Goals.{then-not-part-via-then-not-part, then-not-part-via-else-not-part+then-not-is_white_part}

pub loop-part-preserved-then-not-part : goal.loop-part-preserved-then-not-part
loop-part-preserved-then-not-part c =
    let w = step_says _ _ (sym c.step_at.ensures ∙ c.in-Some.is) in
    let inv = c.loop-part.invariant in
    let next = end_not_white w _ (elim c.then-not-part.branch [
      | then-not-part-via-then-not-part b ↦ ill_formed_not_white _ (not-true _ b.if-not-part.true)
      | then-not-part-via-else-not-part+then-not-is_white_part b ↦ sym b.is_white_part.ensures ∙ b.if-not-is_white_part.true
    ]) in
    (sym next ∙ inv.0, omega arith, omega arith, w.inside)

pub loop-part-preserved : goal.loop-part-preserved
loop-part-preserved c =
    let w = step_says _ _ (sym c.step_at.ensures ∙ c.in-Some.is) in
    let inv = c.loop-part.invariant in
    (sym (end_white_lem w _ (sym c.is_white_part.ensures ∙ c.if-not-is_white_part.false)) ∙ inv.0, omega arith, omega arith, w.inside)

pub returns : goal.returns
returns c =
    let inv = c.loop-part.invariant in
    (sym (ap (text_end _ _) (step_says _ _ (sym c.step_at.ensures ∙ c.in_default.is)).0) ∙ inv.0, inv.1, omega arith)
