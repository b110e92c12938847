-- `body_decode::interleave_bytes` meets its contract: after i turns `out` holds the first i frames, and past them what it held.
use mathlib.Core.Path.{◌≡◌}
use mathlib.Core.List.{◌++◌}
use Prim.Native.Nat.{◌+◌}
use lib.ListN.{take, drop}
use Rattle.laws.specs.Turns.{by_turns}
use Rattle.body_decode.proofs.interleave_bytes.Given as goal

abbrev pub invariant-loop-i : goal.invariant-loop-i
invariant-loop-i l =
    l.out ≡ take (l.i + l.i) (by_turns (take l.n l.left) (take l.n l.right)) ++ drop (l.i + l.i) l.initial.out
