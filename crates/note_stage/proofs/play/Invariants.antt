-- `note_stage::play` meets its contract. Before each run the frames so far are stored, and the cursors follow from the playhead on.
use Prim.Native.Nat.{◌-◌}
use Rattle.note_stage.proofs.PlayLaws.{SoFar}
use Rattle.note_stage.proofs.play.Given as goal

abbrev pub invariant-loop-h : goal.invariant-loop-h
invariant-loop-h l = SoFar l.g l.path l.stage l.points l.segments l.left l.right l.m l.d l.initial.out l.out l.h l.e l.r

abbrev pub decreases-loop-h : goal.decreases-loop-h
decreases-loop-h l = l.end - l.h.frame
