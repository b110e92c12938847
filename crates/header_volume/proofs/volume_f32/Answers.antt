-- `header_volume::volume_f32` meets its contract. Neither cast loses anything: both numbers are at most 2 ^ 24.
use Prim.Native.Nat.{◌^◌}
use native.Mathlib.Nat.{div-le_self, le_trans}
use lib.Dec.{le→leb, lit≤}
use lib.Ieee.{in_float}
use Rattle.header_volume.specs.Volume.{lowest_digit}
use Rattle.header_volume.proofs.VolumeLaws.{digit_pos, kept_le, divided}
use Rattle.header_volume.proofs.volume_f32.Goals as goal

pub nonzero_div-d : goal.nonzero_div-d
nonzero_div-d c = rw c.lowest_digit-u.ensures (digit_pos c.args.volume)

pub int_to_float-result : goal.int_to_float-result
unfolding in_float
int_to_float-result c = rw c.kept_digits-q.ensures (le→leb _ (2 ^ 24) (kept_le c.args.volume))

pub returns : goal.returns
returns c =
    let v = c.args.volume in
    rw (c.kept_digits-q.ensures, c.lowest_digit-u.ensures)
    (divided v c.ranges.volume.fits (le_trans (div-le_self 65536 (lowest_digit v)) (lit≤ tt)))
