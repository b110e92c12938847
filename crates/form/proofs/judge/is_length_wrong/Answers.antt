-- `form::is_length_wrong` meets its contract: each answer is that of its test.
use borrow.Author.Tests.{lt-ltb, le-ltb}
use lib.ListN.{get_or}
use Rattle.form.specs.Kind.{least, length_wrong}
use Rattle.form.proofs.judge.is_length_wrong.Goals as goal

pub returns-then-size-kind : goal.returns-then-size-kind
unfolding length_wrong
returns-then-size-kind c = let a = c.args in rw (lt-ltb a.size (get_or least a.kind 0) c.if-size-kind.true)

pub returns : goal.returns
unfolding length_wrong
returns c = let a = c.args in rw (le-ltb a.size (get_or least a.kind 0) c.if-size-kind.false)
