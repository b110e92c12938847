-- `ensemble_block::mix_through` meets its contract. The invariant: the frames up to `at` stand at the front of the buffer, and the sums are 0.
use Prim.Native.Nat.{◌-◌, ◌≤◌}
use mathlib.Core.Path.{◌≡◌}
use lib.IntN.{pos}
use lib.ListN.{length, replicate}
use Rattle.sheet.specs.Read.{read_sheet}
use Rattle.ensemble_block.specs.Mixed.{mixed_frame}
use Rattle.ensemble_block.proofs.BlockLaws.{filled_to}
use Rattle.ensemble_block.proofs.mix_through.Given as goal

abbrev pub invariant-loop-at : goal.invariant-loop-at
invariant-loop-at l =
    (l.first ≤ l.at)
    × (l.at ≤ l.end)
    × (length l.out ≡ length l.initial.out)
    × (l.out ≡ filled_to (mixed_frame (read_sheet l.sheet) (record { left = l.left; right = l.right }) l.rate l.score) l.first l.initial.out l.at)
    × (l.sums ≡ replicate (length l.initial.sums) (pos 0))

abbrev pub decreases-loop-at : goal.decreases-loop-at
decreases-loop-at l = l.end - l.at
