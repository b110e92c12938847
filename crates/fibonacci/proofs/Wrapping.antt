-- What sums in a signed byte mean.
-- Assumes nothing.
use mathlib.Core.Path.{◌≡◌}
use lib.IntN.{ℤ, pos, negsuc}
use lib.Signed.{◌≤ℤ◌}
use Rattle.laws.proofs.Signed.{zarith, apart}
use Rattle.field.specs.Wrap.{to_sample}
use Rattle.fibonacci.specs.Wrapping.{Wrapping}
use Rattle.field.proofs.WrapLaws.{sample_kept, sample_turn}
use Rattle.fibonacci.proofs.PickLaws.{pick_back}
use Rattle.fibonacci.proofs.Survive.{stream_back}
use Rattle.fibonacci.proofs.Examples.{up_past_the_end, down_past_the_end}

kept : (z : ℤ) → negsuc 127 ≤ℤ z → z ≤ℤ pos 127 → to_sample z ≡ z
kept z l u = sample_kept z (omega (zarith, apart z))

pub wrapping : Wrapping
wrapping = record {
  kept = kept;
  turned = sample_turn;
  nibble_back = pick_back;
  stream_back = stream_back;
  up_past_127 = up_past_the_end;
  down_past_128 = down_past_the_end;
}
