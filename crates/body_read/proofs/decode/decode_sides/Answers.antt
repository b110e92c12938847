-- `body_read::decode::decode_sides` meets its contract: the match says whether the compression is known, and the test how many channels there are.
use mathlib.Core.Path.{refl, sym, ◌∙◌}
use Rattle.body_read.proofs.SideLaws.{sides_unknown, sides_two, sides_one, one_written}
use Rattle.body_read.proofs.decode.decode_sides.Goals as goal

pub decode_two-requires : goal.decode_two-requires
decode_two-requires c =
    let a = c.args in
    let found = sym c.compression.ensures ∙ c.in-Ok.is in
    rw (sides_two a.h a.stereo a.body.now c.in-Ok.c found c.if-stereo.true) at c.requires

pub returns-in_default-clause-left : goal.returns-in_default-clause-left
returns-in_default-clause-left c =
    let a = c.args in
    rw (sides_unknown a.h a.stereo a.body.now _ (sym c.compression.ensures ∙ c.in_default.is)) refl

pub returns-in_default-clause-right : goal.returns-in_default-clause-right
returns-in_default-clause-right c =
    let a = c.args in
    rw (sides_unknown a.h a.stereo a.body.now _ (sym c.compression.ensures ∙ c.in_default.is)) refl

pub returns-then-stereo-clause-left : goal.returns-then-stereo-clause-left
returns-then-stereo-clause-left c =
    let a = c.args in
    let found = sym c.compression.ensures ∙ c.in-Ok.is in
    rw (sides_two a.h a.stereo a.body.now c.in-Ok.c found c.if-stereo.true) c.decode_two.ensures.left

pub returns-then-stereo-clause-right : goal.returns-then-stereo-clause-right
returns-then-stereo-clause-right c =
    let a = c.args in
    let found = sym c.compression.ensures ∙ c.in-Ok.is in
    rw (sides_two a.h a.stereo a.body.now c.in-Ok.c found c.if-stereo.true) c.decode_two.ensures.right

pub returns-clause-left : goal.returns-clause-left
returns-clause-left c =
    let a = c.args in
    let k = c.in-Ok.c in
    let one = sides_one a.h a.stereo a.body.now k (sym c.compression.ensures ∙ c.in-Ok.is) c.if-stereo.false in
    let buffers = one_written a.h k a.body.now a.left.now a.right.now _ (rw one at c.requires) c.decode_channel.ensures.buffer in
    rw one buffers.0

pub returns-clause-right : goal.returns-clause-right
returns-clause-right c =
    let a = c.args in
    let k = c.in-Ok.c in
    let one = sides_one a.h a.stereo a.body.now k (sym c.compression.ensures ∙ c.in-Ok.is) c.if-stereo.false in
    let buffers = one_written a.h k a.body.now a.left.now a.right.now _ (rw one at c.requires) c.decode_channel.ensures.buffer in
    rw one buffers.1
