-- `form::is_channel_wrong` meets its contract: a kind other than CHAN by the test, CHAN by the contracts of the two calls.
use borrow.Author.Tests.{ne_eqb}
use Rattle.form.specs.FirstBad.{channel_wrong}
use Rattle.form.proofs.judge.is_channel_wrong.Goals as goal

pub returns-then-kind-ne2 : goal.returns-then-kind-ne2
unfolding channel_wrong
returns-then-kind-ne2 c = rw (ne_eqb c.args.kind 2 c.if-kind-ne2.true)

pub returns : goal.returns
unfolding channel_wrong
returns c = rw (c.if-kind-ne2.false, c.is_channel.ensures, c.read32.ensures)
