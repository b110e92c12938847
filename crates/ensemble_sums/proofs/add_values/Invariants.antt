-- `ensemble_sums::add_values` meets its contract: after i turns the first i sums have their values added, and past them stands what stood;
-- no sum grew by more than a value of 16 bits.
use mathlib.Core.Path.{◌≡◌}
use mathlib.Core.List.{◌++◌}
use Prim.Native.Nat.{ℕ, ◌+◌}
use lib.ListN.{take, drop}
use Rattle.ensemble_sums.specs.Sums.{plus, Within}
use Rattle.ensemble_sums.proofs.add_values.Given as goal

abbrev pub invariant-loop-i : goal.invariant-loop-i
invariant-loop-i l =
    (l.sums ≡ take l.i (plus (take l.n l.fn.values) l.initial.sums) ++ drop l.i l.initial.sums)
    × ((b : ℕ) → Within b l.initial.sums → Within (b + 32768) l.sums)
