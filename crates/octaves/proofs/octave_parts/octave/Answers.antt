-- `octaves::octave_parts::octave` meets its contract: the part that the query tells lies within the slice.
use lib.ListN.{length}
use Rattle.octaves.proofs.PartLaws.{octave_within}
use Rattle.octaves.proofs.octave_parts.octave.Goals as goal

pub part_of-requires : goal.part_of-requires
part_of-requires c =
    let a = c.args in
    rw c.octave_part.ensures (octave_within a.h (length a.samples.now) a.k)
