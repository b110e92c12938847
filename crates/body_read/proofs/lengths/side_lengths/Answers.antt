-- `body_read::lengths::side_lengths` meets its contract: the match says whether the compression is known, and the test how many channels there are.
use mathlib.Core.Path.{sym, ap, ◌∙◌}
use Rattle.std.proofs.lemmas.Result.{err_from_is_err_and}
use Rattle.body_read.specs.Answers.{side_lengths_of}
use Rattle.body_read.proofs.SideLaws.{sides_unknown, sides_two, sides_one}
use Rattle.body_read.proofs.lengths.side_lengths.Goals as goal

pub returns-then-stereo : goal.returns-then-stereo
returns-then-stereo c =
    let a = c.args in
    let found = sym c.compression.ensures ∙ c.in_ok-c.was in
    c.two_lengths.ensures ∙ sym (ap side_lengths_of (sides_two a.h a.stereo a.body.now c.in_ok-c.c found c.if-stereo.true))

pub returns-in_err-c : goal.returns-in_err-c
returns-in_err-c c =
    let a = c.args in
    let p = err_from_is_err_and c.from_residual.result c.from_residual.ensures.1 in
    rw (p.1, p.2) (sym (ap side_lengths_of (sides_unknown a.h a.stereo a.body.now c.in_err-c.field-0.0 (sym c.compression.ensures ∙ c.in_err-c.was))))

pub returns : goal.returns
returns c =
    let a = c.args in
    let found = sym c.compression.ensures ∙ c.in_ok-c.was in
    c.one_length.ensures ∙ sym (ap side_lengths_of (sides_one a.h a.stereo a.body.now c.in_ok-c.c found c.if-stereo.false))
