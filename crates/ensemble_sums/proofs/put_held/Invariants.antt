-- `ensemble_sums::put_held` meets its contract: after i turns `out` holds the first i sums, held; past them it holds what it held.
use mathlib.Core.Path.{◌≡◌}
use mathlib.Core.List.{map, ◌++◌}
use lib.ListN.{take, drop}
use Rattle.ensemble_sums.specs.Sums.{held_to16}
use Rattle.ensemble_sums.proofs.put_held.Given as goal

abbrev pub invariant-loop-i : goal.invariant-loop-i
invariant-loop-i l = l.out ≡ take l.i (map held_to16 l.fn.sums) ++ drop l.i l.initial.out
