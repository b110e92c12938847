use Rattle.std.proofs.Common.{◌∙◌, arith}
use Rattle.std.proofs.lemmas.Nat.{one_shl}
use Rattle.header_volume.proofs.VolumeLaws.{digit_is}
use Rattle.header_volume.proofs.lowest_digit.Goals as goal

pub returns : goal.returns
returns c = one_shl c.saturating_sub.result 32 (omega (arith, c.saturating_sub.ensures)) ∙ rw c.saturating_sub.ensures (digit_is c.args.volume c.ranges.volume.fits)
