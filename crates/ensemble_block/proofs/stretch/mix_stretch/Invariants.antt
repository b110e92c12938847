-- `ensemble_block::stretch::mix_stretch` meets its contract. The invariant: the entries up to the loop's are added.
use Prim.Native.Nat.{◌/◌}
use mathlib.Core.Path.{◌≡◌}
use lib.ListN.{length, take}
use Rattle.sheet.specs.Read.{read_sheet}
use Rattle.ensemble_block.proofs.SumsLaws.{Summed}
use Rattle.ensemble_block.proofs.stretch.mix_stretch.Given as goal

abbrev pub invariant-loop-i : goal.invariant-loop-i
invariant-loop-i l =
    (length l.sums ≡ length l.initial.sums)
    × (length l.out ≡ length l.initial.out)
    × Summed (read_sheet l.sheet) (record { left = l.left; right = l.right }) l.rate l.at (length l.initial.out / 2) (take l.i l.score) l.sums
