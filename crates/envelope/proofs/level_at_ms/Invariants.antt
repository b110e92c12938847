-- The invariant: the points that are left lead from the level so far, in the time that is left, to where all of them lead.
use mathlib.Core.Path.{◌≡◌}
use Rattle.std.specs.Slice.Iter.{chunks_exact_rest, chunks_exact_size}
use Rattle.small_chunks.specs.Envelope.{envelope_points}
use Rattle.envelope.specs.Envelope.{level_at}
use Rattle.envelope.proofs.level_at_ms.Given as goal

abbrev pub invariant-loop-point : goal.invariant-loop-point
invariant-loop-point l =
    (level_at (envelope_points (chunks_exact_rest l.point-iterator)) l.level l.left ≡ level_at (envelope_points l.points) l.start l.t_ms) × (chunks_exact_size l.point-iterator ≡ 6)
