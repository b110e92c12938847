-- `ensemble_rules::order::order_refusal` meets its contract. The loop's invariant: the first rule that holds of the entries left is the
-- first of all.
use mathlib.Core.Path.{◌≡◌}
use lib.ListN.{drop}
use Rattle.refusal.specs.Rules.{first_holding}
use Rattle.ensemble_rules.specs.Rules.{order_rules}
use Rattle.ensemble_rules.proofs.order.order_refusal.Given as goal

abbrev pub invariant-loop-e : goal.invariant-loop-e
invariant-loop-e l = first_holding (order_rules l.before (drop l.e-index l.score)) ≡ first_holding (order_rules 0 l.score)
