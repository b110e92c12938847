-- `envelope::total_duration_ms` meets its contract. The invariant: the sum and the time of the points that are left make the time of
-- all points, or the largest sum where that is past 64 bits.
use Prim.Native.Nat.{◌+◌, ◌-◌, ◌^◌, ◌≤◌, min}
use mathlib.Core.Path.{◌≡◌}
use Rattle.std.specs.Slice.Iter.{chunks_exact_rest, chunks_exact_size}
use Rattle.small_chunks.specs.Envelope.{envelope_points}
use Rattle.envelope.specs.Envelope.{total_duration}
use Rattle.envelope.proofs.total_duration_ms.Given as goal

abbrev pub invariant-loop-point : goal.invariant-loop-point
invariant-loop-point l =
    (min (l.sum + total_duration (envelope_points (chunks_exact_rest l.point-iterator))) (2 ^ 64 - 1) ≡ min (total_duration (envelope_points l.points)) (2 ^ 64 - 1)) × (l.sum ≤ 2 ^ 64 - 1) × (chunks_exact_size l.point-iterator ≡ 6)
