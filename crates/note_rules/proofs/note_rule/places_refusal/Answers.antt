-- `note_rules::note_rule::places_refusal` meets its contract: the test is the rule's own.
use Prim.Native.Nat.{◌%◌}
use mathlib.Core.Path.{sym, ◌∙◌}
use borrow.Author.Tests.{eq-eqb, ne_eqb}
use Rattle.refusal.proofs.RuleLaws.{first_here, first_later, first_none}
use Rattle.note_rules.proofs.note_rule.places_refusal.Goals as goal

pub returns-then-places-eq1 : goal.returns-then-places-eq1
returns-then-places-eq1 c = sym (first_here _ _ (eq-eqb (c.args.places % 2) 1 c.if-places-eq1.true))

pub returns : goal.returns
returns c = sym (first_later _ _ (ne_eqb (c.args.places % 2) 1 c.if-places-eq1.false) ∙ first_none)
