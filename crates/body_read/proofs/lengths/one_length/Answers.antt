-- `body_read::lengths::one_length` meets its contract: the left side is the channel, and there is no right one.
use mathlib.Core.Path.{sym, ap, ◌∙◌}
use Prim.Native.Nat.{ℕ}
use lib.ListN.{take}
use Rattle.std.proofs.lemmas.Result.{err_from_is_err_and}
use Rattle.body_read.specs.Sides.{channel_samples}
use Rattle.body_read.specs.Answers.{side_lengths_of}
use Rattle.body_read.specs.Helpers.{stream_samples}
use Rattle.body_read.proofs.ChannelLaws.{count_refused, channel_gives}
use Rattle.body_read.proofs.SideLaws.{one_refused, one_gives}
use Rattle.body_read.proofs.lengths.one_length.Goals as goal
use Rattle.std.specs.Prelude.{Ok}

pub returns-in_err-left : goal.returns-in_err-left
returns-in_err-left c =
    let a = c.args in
    let n = c.in_err-left.field-0.0 in
    let refused = count_refused (channel_samples a.h a.c a.body.now) n (sym c.channel_length.ensures ∙ c.in_err-left.was) in
    let p = err_from_is_err_and c.from_residual.result c.from_residual.ensures.1 in
    rw (p.1, p.2) (sym (ap side_lengths_of (one_refused a.h a.c a.body.now n refused)))

pub returns : goal.returns
returns c =
    let a = c.args in
    let n = c.in_ok-left.left in
    let k = channel_gives a.h a.c a.body.now n (sym c.channel_length.ensures ∙ c.in_ok-left.was) in
    sym (ap side_lengths_of (one_gives a.h a.c a.body.now (take n (stream_samples a.c a.body.now)) k.is) ∙ ap (λ (l : ℕ). Ok (record { left = l; right = 0 })) k.long)
