-- `chunk::walk_end` meets its contract: the smaller of two ends.
use mathlib.Core.Path.{sym}
use native.Mathlib.Omega.{arith}
use Rattle.chunk.proofs.ChunkLaws.{end_file, end_length}
use Rattle.chunk.proofs.walk_end.Goals as goal

pub returns-then-n-lt8 : goal.returns-then-n-lt8
returns-then-n-lt8 c = (sym (end_file _ (omega arith)), omega arith)

pub returns-then-n-end : goal.returns-then-n-end
returns-then-n-end c = (sym (end_file _ (omega arith)), omega arith)

pub returns : goal.returns
returns c = (omega (arith, end_length c.args.file.now (omega arith)), omega arith)
