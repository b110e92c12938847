-- `note_rules::note_rule::velocity_refusal` meets its contract: at each `return` the tests that led there are the rule's own.
use mathlib.Core.Path.{sym, ◌∙◌}
use Rattle.refusal.proofs.RuleLaws.{first_here, first_later, first_none}
use Rattle.note_rules.proofs.RuleLaws.{outside_most, within_most}
use Rattle.note_rules.proofs.note_rule.velocity_refusal.Goals as goal

pub returns-then-velocity-eq0 : goal.returns-then-velocity-eq0
returns-then-velocity-eq0 c = sym (first_here _ _ (outside_most c.args.velocity 127 c.then-velocity-eq0.either))

pub returns : goal.returns
returns c = sym (first_later _ _ (within_most c.args.velocity 127 c.if-velocity-eq0.false c.if-velocity-gt127.false) ∙ first_none)
