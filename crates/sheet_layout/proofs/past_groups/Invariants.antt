-- `sheet_layout::past_groups` meets its contract. The invariant: the place and the run that is left end where the whole run ends.
-- Each turn passes one record of it, and there is less of the sheet left.
use Prim.Native.Nat.{◌+◌, ◌-◌}
use lib.ListN.{length, drop}
use mathlib.Core.Path.{◌≡◌}
use Rattle.sheet_layout.specs.Stretch.{stretch}
use Rattle.sheet_layout.proofs.past_groups.Given as goal

abbrev pub invariant-loop-kind : goal.invariant-loop-kind
invariant-loop-kind l = l.i + stretch l.opens l.member l.n (drop l.i l.sheet) ≡ l.at + stretch l.opens l.member l.n (drop l.at l.sheet)

abbrev pub decreases-loop-kind : goal.decreases-loop-kind
decreases-loop-kind l = length l.sheet - l.i
