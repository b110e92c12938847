-- `ensemble_rules::play::entries_refusal` meets its contract. The loop's invariant: the first rule that holds of the entries left is the
-- first of all.
use mathlib.Core.Path.{◌≡◌}
use lib.ListN.{drop}
use Rattle.refusal.specs.Rules.{first_holding}
use Rattle.sheet.specs.Read.{read_sheet}
use Rattle.ensemble_rules.specs.Rules.{entries_rules}
use Rattle.ensemble_rules.proofs.play.entries_refusal.Given as goal

abbrev pub invariant-loop-e : goal.invariant-loop-e
invariant-loop-e l =
    first_holding (entries_rules (read_sheet l.sheet) l.rate (drop l.e-index l.score)) ≡ first_holding (entries_rules (read_sheet l.sheet) l.rate l.score)
