-- `ensemble_rules::order::order_refusal` meets its contract: the first of the rules of all entries that holds is the first of those of the
-- entries that are left.
use mathlib.Core.Path.{sym, ◌∙◌}
use Rattle.ensemble_rules.proofs.RuleLaws.{order_turned, order_passed, order_end}
use Rattle.ensemble_rules.proofs.order.order_refusal.Goals as goal
use Rattle.std.proofs.lemmas.Result.{err_from_is_err_and}

pub returns-in_err-entry_order : goal.returns-in_err-entry_order
returns-in_err-entry_order c =
    let l = c.loop-e in
    let p = err_from_is_err_and c.from_residual.result c.from_residual.ensures.1 in
    let turned = order_turned c.args.score.now l.e-index c.loop-e-test.true l.before _ (sym c.entry_order.ensures ∙ c.in_err-entry_order.was) in
    rw (p.1, p.2) (sym turned ∙ l.invariant)

pub loop-e-preserved : goal.loop-e-preserved
loop-e-preserved c =
    let l = c.loop-e in
    sym (order_passed c.args.score.now l.e-index c.loop-e-test.true l.before (sym c.entry_order.ensures ∙ c.in_ok-entry_order.was)) ∙ l.invariant

pub returns : goal.returns
returns c =
    let l = c.loop-e in
    sym (order_end c.args.score.now l.e-index c.loop-e-test.false l.before) ∙ l.invariant
