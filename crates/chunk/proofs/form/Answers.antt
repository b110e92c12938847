-- `chunk::form` meets its contract: the walk ends within the file, and the part begins at its front.
use lib.Seq.{length-take-le}
use mathlib.Core.Path.{sym}
use native.Mathlib.Omega.{arith}
use Rattle.chunk.proofs.ChunkLaws.{end_le}
use Rattle.chunk.proofs.form.Goals as goal

pub slice_bounds-result-end : goal.slice_bounds-result-end
slice_bounds-result-end c = let f = c.args.file.now in sym (length-take-le c.walk_end-end.result f (omega (arith, end_le f)))
