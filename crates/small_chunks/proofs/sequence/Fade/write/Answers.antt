-- `Fade::write` meets its contract, by that of its call.
use Rattle.small_chunks.specs.Sequence.{fade_bytes}
use Rattle.small_chunks.proofs.sequence.Fade.write.Goals as goal

pub returns : goal.returns
unfolding fade_bytes
returns c = c.bytes32.ensures
