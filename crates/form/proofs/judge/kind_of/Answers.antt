-- `form::kind_of` meets its contract: an arm's name is at its place in the list, and the last arm has none of the names.
use borrow.Author.Rules.{rules}
use mathlib.Core.Path.{sym}
use Rattle.form.proofs.FormLaws.{kind_none}
use Rattle.form.specs.Kind.{kind_of}
use Rattle.form.proofs.judge.kind_of.Goals as goal

pub returns-in-1447576658 : goal.returns-in-1447576658
unfolding kind_of
returns-in-1447576658 c = (rw c.in-1447576658.is, search rules)

pub returns-in-1128808782 : goal.returns-in-1128808782
unfolding kind_of
returns-in-1128808782 c = (rw c.in-1128808782.is, search rules)

pub returns-in-1346457120 : goal.returns-in-1346457120
unfolding kind_of
returns-in-1346457120 c = (rw c.in-1346457120.is, search rules)

pub returns-in-1397051726 : goal.returns-in-1397051726
unfolding kind_of
returns-in-1397051726 c = (rw c.in-1397051726.is, search rules)

pub returns-in-1178682437 : goal.returns-in-1178682437
unfolding kind_of
returns-in-1178682437 c = (rw c.in-1178682437.is, search rules)

pub returns-in-1112491097 : goal.returns-in-1112491097
unfolding kind_of
returns-in-1112491097 c = (rw c.in-1112491097.is, search rules)

pub returns-in-1096040779 : goal.returns-in-1096040779
unfolding kind_of
returns-in-1096040779 c = (rw c.in-1096040779.is, search rules)

pub returns-in-1380733765 : goal.returns-in-1380733765
unfolding kind_of
returns-in-1380733765 c = (rw c.in-1380733765.is, search rules)

pub returns-in_default : goal.returns-in_default
returns-in_default c = (sym (kind_none _ (search rules)), search rules)
