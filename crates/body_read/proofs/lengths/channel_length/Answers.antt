-- `body_read::lengths::channel_length` meets its contract: what is kept is counted by what the stream counts.
use mathlib.Core.Path.{sym, ap, ◌∙◌}
use Rattle.std.proofs.lemmas.Result.{err_from_is_err_and}
use Rattle.body_read.proofs.ChannelLaws.{kept_count, channel_count_lem}
use Rattle.body_read.proofs.lengths.channel_length.Goals as goal

pub returns-in_err-n : goal.returns-in_err-n
returns-in_err-n c =
    let a = c.args in
    let p = err_from_is_err_and c.from_residual.result c.from_residual.ensures.1 in
    rw (p.1, p.2) (sym (channel_count_lem a.h a.c a.bytes.now ∙ ap (kept_count a.h) (sym c.stream_length.ensures ∙ c.in_err-n.was)))

pub returns : goal.returns
returns c =
    let a = c.args in
    c.kept_length.ensures ∙ sym (channel_count_lem a.h a.c a.bytes.now ∙ ap (kept_count a.h) (sym c.stream_length.ensures ∙ c.in_ok-n.was))
