-- `read_fade` meets its contract, by that of its call.
use Rattle.small_chunks.specs.Sequence.{fade_of}
use Rattle.small_chunks.proofs.sequence.read_fade.Goals as goal

pub returns : goal.returns
unfolding fade_of
returns c = rw c.read32.ensures
