-- `ensemble_rules::order::score_refusal` meets its contract: the test is 46's own.
use mathlib.Core.Path.{sym, ◌∙◌}
use borrow.Author.Tests.{lt-ltb, le-ltb}
use lib.ListN.{length}
use Rattle.refusal.proofs.RuleLaws.{first_here, first_later}
use Rattle.ensemble_rules.proofs.order.score_refusal.Goals as goal

pub returns-then-score-gt16 : goal.returns-then-score-gt16
returns-then-score-gt16 c = sym (first_here _ _ (lt-ltb 16 (length c.args.score.now) c.if-score-gt16.true))

pub returns : goal.returns
returns c = c.order_refusal.ensures ∙ sym (first_later _ _ (le-ltb 16 (length c.args.score.now) c.if-score-gt16.false))
