-- `body_read::lengths::two_lengths` meets its contract: the halves give as many samples, so the left one speaks for both.
use mathlib.Core.Path.{sym, ap, ap₂, ◌∙◌}
use Prim.Native.Nat.{ℕ}
use Rattle.samples.specs.Halves.{left_half, right_half}
use Rattle.std.proofs.lemmas.Result.{err_from_is_err_and}
use Rattle.body_read.specs.Answers.{side_lengths_of}
use Rattle.body_read.proofs.ChannelLaws.{channel_gives}
use Rattle.body_read.proofs.SideLaws.{two_uneven, two_refused, two_gives, halves_count}
use Rattle.body_read.proofs.lengths.two_lengths.Goals as goal
use Rattle.std.specs.Prelude.{Ok}

pub returns-then-is_uneven : goal.returns-then-is_uneven
returns-then-is_uneven c =
    let a = c.args in
    sym (ap side_lengths_of (two_uneven a.h a.c a.body.now (sym c.is_uneven.ensures ∙ c.if-is_uneven.true)))

pub returns-in_err-n : goal.returns-in_err-n
returns-in_err-n c =
    let a = c.args in
    let even_is = sym c.is_uneven.ensures ∙ c.if-is_uneven.false in
    let counted = rw c.left_half.ensures.contents at c.channel_length.ensures in
    let p = err_from_is_err_and c.from_residual.result c.from_residual.ensures.1 in
    rw (p.1, p.2) (sym (ap side_lengths_of (two_refused a.h a.c a.body.now even_is c.in_err-n.field-0.0 (sym counted ∙ c.in_err-n.was))))

pub returns : goal.returns
returns c =
    let a = c.args in
    let n = c.in_ok-n.n in
    let even_is = sym c.is_uneven.ensures ∙ c.if-is_uneven.false in
    let counted = rw c.left_half.ensures.contents at c.channel_length.ensures in
    let left = sym counted ∙ c.in_ok-n.was in
    let l = channel_gives a.h a.c (left_half a.body.now) n left in
    let r = channel_gives a.h a.c (right_half a.body.now) n (sym (halves_count a.h a.c a.body.now) ∙ left) in
    sym (ap side_lengths_of (two_gives a.h a.c a.body.now even_is n left) ∙ ap₂ (λ (i j : ℕ). Ok (record { left = i; right = j })) l.long r.long)
