-- `ensemble_rules::order::entry_order` meets its contract: at each `return` the tests that led there are the rules' own.
use mathlib.Core.Path.{sym, ◌∙◌}
use borrow.Author.Tests.{lt-ltb, le-ltb}
use Rattle.refusal.proofs.RuleLaws.{first_here, first_later, first_none}
use Rattle.ensemble_rules.proofs.order.entry_order.Goals as goal

pub returns-then-e-before : goal.returns-then-e-before
returns-then-e-before c =
    let a = c.args in
    sym (first_here _ _ (lt-ltb a.e.start a.before c.if-e-before.true))

pub returns-then-e : goal.returns-then-e
returns-then-e c =
    let a = c.args in
    sym (first_later _ _ (le-ltb a.e.start a.before c.if-e-before.false) ∙ first_here _ _ (lt-ltb a.e.key_up a.e.start c.if-e.true))

pub returns : goal.returns
returns c =
    let a = c.args in
    sym (
    first_later _ _ (le-ltb a.e.start a.before c.if-e-before.false)
    ∙ first_later _ _ (le-ltb a.e.key_up a.e.start c.if-e.false)
    ∙ first_none
    )
