-- `note_path::run::next_run` meets its contract. The invariant: the segments that are left are the path from step `until` on, which is no
-- later than step q.
use lib.ListN.{length}
use Rattle.note_path.specs.Segments.{left}
use Rattle.note_path.proofs.AheadLaws.{Rest}
use Rattle.note_path.proofs.run.next_run.Given as goal

abbrev pub invariant-loop-s : goal.invariant-loop-s
invariant-loop-s l = Rest l.p l.segments l.q l.until l.ahead

abbrev pub decreases-loop-s : goal.decreases-loop-s
decreases-loop-s l = length (left l.ahead)
