-- `body_decode::copy_bytes` meets its contract: after i turns `out` holds the first i bytes, and past them what it held.
use mathlib.Core.Path.{◌≡◌}
use mathlib.Core.List.{◌++◌}
use lib.ListN.{take, drop}
use Rattle.body_decode.proofs.copy_bytes.Given as goal

abbrev pub invariant-loop-i : goal.invariant-loop-i
invariant-loop-i l = l.out ≡ take l.i l.body ++ drop l.i l.initial.out
