-- `note_path::run::run_start` meets its contract: the run has no steps, and all segments are past it.
use native.Mathlib.Omega.{arith}
use Rattle.note_path.proofs.RunLaws.{run_front}
use Rattle.note_path.proofs.run.run_start.Goals as goal

pub returns : goal.returns
returns c = (run_front _ _ c.requires, omega arith)
