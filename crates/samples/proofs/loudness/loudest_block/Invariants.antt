-- `samples::loudness::loudest_block` meets its contract: of the samples before `start` the largest magnitude is known, and none before its block has it.
use mathlib.Core.Path.{◌≡◌}
use Prim.Native.Nat.{◌≤◌}
use lib.ListN.{take, drop, length}
use Rattle.samples.specs.Peak.{loudest, first_with}
use Rattle.std.specs.Slice.Iter.{chunks_rest, chunks_size}
use Rattle.samples.proofs.loudness.loudest_block.Given as goal

abbrev pub invariant-loop-block : goal.invariant-loop-block
invariant-loop-block l =
    (l.start ≤ length l.samples) × (chunks_rest l.block-iterator ≡ drop l.start l.samples) × (chunks_size l.block-iterator ≡ 128)
    × (l.best.magnitude ≡ loudest (take l.start l.samples)) × (l.best.start ≤ first_with l.best.magnitude (take l.start l.samples)) × (l.best.start ≤ l.start)
