-- `note_stage::step::play_step` meets its contract. Before each frame the frames so far are stored, and the playhead stands at it: its
-- clock shows the quotient and the remainder that the division gives.
use Prim.Native.Nat.{◌+◌, ◌-◌}
use Rattle.note_stage.proofs.StretchLaws.{Stretching}
use Rattle.note_stage.proofs.step.play_step.Given as goal

abbrev pub invariant-loop-stage : goal.invariant-loop-stage
invariant-loop-stage l = Stretching (λ p. l.f) l.stage (l.q + 1) l.ms l.m l.end l.initial.h l.initial.out l.out l.h

abbrev pub decreases-loop-stage : goal.decreases-loop-stage
decreases-loop-stage l = l.end - l.h.frame
