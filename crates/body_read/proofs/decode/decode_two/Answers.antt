-- `body_read::decode::decode_two` meets its contract: halves of one length are refused alike, so both buffers are written or neither.
use mathlib.Core.Path.{refl, sym, ap, ◌∙◌}
use mathlib.Core.List.{List}
use Prim.Native.Nat.{ℕ}
use lib.IntN.{ℤ}
use Rattle.body_read.specs.Sides.{channel_samples}
use Rattle.body_read.proofs.SideLaws.{two_uneven, two_written}
use Rattle.body_read.proofs.decode.decode_two.Goals as goal
use Rattle.refusal.specs.Outcome.{buffer_after}

pub returns-then-is_uneven-clause-left : goal.returns-then-is_uneven-clause-left
returns-then-is_uneven-clause-left c =
    let a = c.args in
    rw (two_uneven a.h a.c a.body.now (sym c.is_uneven.ensures ∙ c.if-is_uneven.true)) refl

pub returns-then-is_uneven-clause-right : goal.returns-then-is_uneven-clause-right
returns-then-is_uneven-clause-right c =
    let a = c.args in
    rw (two_uneven a.h a.c a.body.now (sym c.is_uneven.ensures ∙ c.if-is_uneven.true)) refl

pub returns-clause-left : goal.returns-clause-left
returns-clause-left c =
    let a = c.args in
    let even = sym c.is_uneven.ensures ∙ c.if-is_uneven.false in
    let after : List ℕ → List ℤ = λ half. buffer_after (channel_samples a.h a.c half) a.left.now in
    let left = c.decode_channel.ensures.buffer ∙ ap after c.left_half.ensures.contents in
    let right = rw c.right_half.ensures.contents at c.decode_channel-2.ensures.buffer in
    (two_written a.h a.c a.body.now even a.left.now a.right.now _ _ c.requires left right).0

pub returns-clause-right : goal.returns-clause-right
returns-clause-right c =
    let a = c.args in
    let even = sym c.is_uneven.ensures ∙ c.if-is_uneven.false in
    let after : List ℕ → List ℤ = λ half. buffer_after (channel_samples a.h a.c half) a.left.now in
    let left = c.decode_channel.ensures.buffer ∙ ap after c.left_half.ensures.contents in
    let right = rw c.right_half.ensures.contents at c.decode_channel-2.ensures.buffer in
    (two_written a.h a.c a.body.now even a.left.now a.right.now _ _ c.requires left right).1
