-- `wave::values::put_values` meets its contract: what a loop wrote in the part from `at` on is stored at `at` of the whole.
use mathlib.Core.Path.{sym}
use native.Mathlib.Omega.{arith}
use Rattle.laws.proofs.PutLaws.{put_part, part_fits}
use Rattle.wave.specs.Wave.{values_of}
use Rattle.wave.proofs.ValueLaws.{values_two, values_one, two_length, one_length_lem}
use Rattle.wave.proofs.values.put_values.Goals as goal

pub write_two-requires : goal.write_two-requires
write_two-requires c =
    let a = c.args in
    let same = c.requires.0 c.if-stereo.true in
    let room = part_fits (values_of a.stereo a.left.now a.right.now) a.d.now a.at c.requires.1 in
    (same, omega (arith, room, two_length a.stereo a.left.now a.right.now c.if-stereo.true same))

pub overflow_add-result : goal.overflow_add-result
overflow_add-result c = let a = c.args in omega (arith, two_length a.stereo a.left.now a.right.now c.if-stereo.true (c.requires.0 c.if-stereo.true))

pub returns-then-stereo : goal.returns-then-stereo
returns-then-stereo c =
    let a = c.args in
    let pairs = two_length a.stereo a.left.now a.right.now c.if-stereo.true (c.requires.0 c.if-stereo.true) in
    put_part (values_of a.stereo a.left.now a.right.now) a.d.now a.at c.requires.1 _ _ _ (sym pairs) (values_two a.stereo a.left.now a.right.now c.if-stereo.true) c.write_two.ensures

pub write_one-requires : goal.write_one-requires
write_one-requires c =
    let a = c.args in
    let room = part_fits (values_of a.stereo a.left.now a.right.now) a.d.now a.at c.requires.1 in
    omega (arith, room, one_length_lem a.stereo a.left.now a.right.now c.if-stereo.false)

pub returns : goal.returns
returns c =
    let a = c.args in
    let singles = one_length_lem a.stereo a.left.now a.right.now c.if-stereo.false in
    put_part (values_of a.stereo a.left.now a.right.now) a.d.now a.at c.requires.1 _ _ _ (sym singles) (values_one a.stereo a.left.now a.right.now c.if-stereo.false) c.write_one.ensures
