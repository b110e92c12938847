-- `body_read::lengths::stream_length` meets its contract: in each arm the match says which compression it is.
use mathlib.Core.Path.{sym, ap, ◌∙◌}
use borrow.Author.Tests.{le-ltb}
use lib.ListN.{length}
use Rattle.header.specs.declared.compression.Compression.TheVariants.{None, Fibonacci}
use Rattle.body_read.specs.Helpers.{sample_count_of}
use Rattle.body_read.proofs.ChannelLaws.{stream_refused, stream_count}
use Rattle.body_read.proofs.lengths.stream_length.Goals as goal

pub returns-then-n-lt2 : goal.returns-then-n-lt2
returns-then-n-lt2 c =
    let a = c.args in
    rw c.in-Fibonacci.is (sym (ap sample_count_of (stream_refused a.bytes.now c.if-n-lt2.true)))

pub returns-in-None : goal.returns-in-None
returns-in-None c =
    let a = c.args in
    rw c.in-None.is (sym (stream_count None a.bytes.now))

pub returns-else-n-lt2 : goal.returns-else-n-lt2
returns-else-n-lt2 c =
    let a = c.args in
    rw c.in-Fibonacci.is (sym (stream_count Fibonacci a.bytes.now ∙ rw (le-ltb (length a.bytes.now) 2 c.if-n-lt2.false)))
