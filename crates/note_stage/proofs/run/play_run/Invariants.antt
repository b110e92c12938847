-- `note_stage::run::play_run` meets its contract. Before each step the frames so far are stored.
use Prim.Native.Nat.{◌-◌}
use Rattle.note_frame.specs.Frame.{step_of}
use Rattle.note_stage.specs.Block.{run_frame}
use Rattle.note_stage.proofs.StretchLaws.{Stretching}
use Rattle.note_stage.proofs.run.play_run.Given as goal

abbrev pub invariant-loop-g : goal.invariant-loop-g
invariant-loop-g l =
    Stretching (λ p. run_frame l.g l.r l.e.now l.left l.right (step_of l.stage.step p)) l.stage l.r.until l.e.until l.m l.end l.initial.h l.initial.out l.out l.h

abbrev pub decreases-loop-g : goal.decreases-loop-g
decreases-loop-g l = l.end - l.h.frame
