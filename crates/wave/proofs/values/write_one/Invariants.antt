-- `wave::values::write_one` meets its contract: after i turns `out` holds the first i of what it writes, and past them what it held.
use mathlib.Core.Path.{◌≡◌}
use mathlib.Core.List.{map, ◌++◌}
use lib.ListN.{take, drop}
use Rattle.wave.specs.Wave.{value_of}
use Rattle.wave.proofs.values.write_one.Given as goal

abbrev pub invariant-loop-i : goal.invariant-loop-i
invariant-loop-i l = l.out ≡ take l.i (map value_of l.samples) ++ drop l.i l.initial.out
