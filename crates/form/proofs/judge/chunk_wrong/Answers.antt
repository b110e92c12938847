-- `form::chunk_wrong` meets its contract: the tests in the order of their numbers. A CHAN of a right length has the four bytes that are read.
use mathlib.Core.Path.{sym, ◌∙◌}
use Rattle.form.proofs.FormLaws.{size_least}
use Rattle.form.specs.FirstBad.{chunk_wrong}
use Rattle.form.proofs.judge.chunk_wrong.Goals as goal

pub returns-then-came : goal.returns-then-came
unfolding chunk_wrong
returns-then-came c = rw c.if-came.true

pub returns-then-is_length_wrong : goal.returns-then-is_length_wrong
unfolding chunk_wrong
returns-then-is_length_wrong c = rw (c.if-came.false, ← c.is_length_wrong.ensures, c.if-is_length_wrong.true)

pub is_channel_wrong-requires : goal.is_channel_wrong-requires
is_channel_wrong-requires c = λ e. rw e at (size_least _ _ (sym c.is_length_wrong.ensures ∙ c.if-is_length_wrong.false))

pub returns-then-is_channel_wrong : goal.returns-then-is_channel_wrong
unfolding chunk_wrong
returns-then-is_channel_wrong c =
    rw (c.if-came.false, ← c.is_length_wrong.ensures, c.if-is_length_wrong.false, ← c.is_channel_wrong.ensures, c.if-is_channel_wrong.true)

pub returns : goal.returns
unfolding chunk_wrong
returns c =
    rw (c.if-came.false, ← c.is_length_wrong.ensures, c.if-is_length_wrong.false, ← c.is_channel_wrong.ensures, c.if-is_channel_wrong.false)
