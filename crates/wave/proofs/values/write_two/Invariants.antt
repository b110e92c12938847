-- `wave::values::write_two` meets its contract: after i turns `out` holds the first i pairs, and past them what it held.
use mathlib.Core.Path.{◌≡◌}
use mathlib.Core.List.{map, ◌++◌}
use Prim.Native.Nat.{◌+◌}
use lib.ListN.{take, drop}
use Rattle.laws.specs.Turns.{by_turns}
use Rattle.wave.specs.Wave.{value_of}
use Rattle.wave.proofs.values.write_two.Given as goal

abbrev pub invariant-loop-i : goal.invariant-loop-i
invariant-loop-i l = l.out ≡ take (l.i + l.i) (by_turns (map value_of l.left) (map value_of l.right)) ++ drop (l.i + l.i) l.initial.out
