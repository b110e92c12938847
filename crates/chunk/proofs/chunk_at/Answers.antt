-- `chunk::chunk_at` meets its contract: each answer cites the law of its tests.
use mathlib.Core.Path.{sym}
use native.Mathlib.Omega.{arith}
use Rattle.chunk.proofs.ChunkLaws.{step_end, step_past, step_whole}
use Rattle.chunk.proofs.chunk_at.Goals as goal

pub returns-then-n-at : goal.returns-then-n-at
returns-then-n-at c = sym (step_end _ _ (omega arith))

pub returns-then-left-lt8 : goal.returns-then-left-lt8
returns-then-left-lt8 c = sym (step_end _ _ (omega arith))

pub returns-then-left-size : goal.returns-then-left-size
returns-then-left-size c = sym (step_past _ _ (omega arith) (omega arith))

pub returns : goal.returns
returns c = let a = c.args in cc (step_whole a.form.now a.at (omega arith) (omega arith))
