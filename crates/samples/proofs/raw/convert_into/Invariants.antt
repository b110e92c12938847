-- `samples::raw::convert_into` meets its contract: after i turns `out` holds the first i of what it writes, and past them what it held.
use mathlib.Core.Path.{◌≡◌}
use mathlib.Core.List.{map, ◌++◌}
use lib.ListN.{take, drop}
use Rattle.samples.proofs.raw.convert_into.Given as goal

abbrev pub invariant-loop-i : goal.invariant-loop-i
invariant-loop-i g l = l.out ≡ take l.i (map g.f l.from) ++ drop l.i l.initial.out
