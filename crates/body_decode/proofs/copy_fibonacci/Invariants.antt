-- `body_decode::copy_fibonacci` meets its contract: `prev` is the next sample, where there is one.
use mathlib.Core.Path.{◌≡◌}
use mathlib.Core.List.{◌++◌}
use Prim.Native.Nat.{◌<◌}
use lib.IntN.{pos}
use lib.ListN.{length, take, drop, get_or}
use Rattle.fibonacci.specs.Decode.{fib_samples}
use Rattle.body_decode.specs.Body.{frame_bytes}
use Rattle.body_decode.proofs.copy_fibonacci.Given as goal

abbrev pub invariant-loop-i : goal.invariant-loop-i
invariant-loop-i l =
    (l.out ≡ take l.i (frame_bytes l.n (fib_samples l.body)) ++ drop l.i l.initial.out)
    × (l.i < length (fib_samples l.body) → l.prev ≡ get_or (fib_samples l.body) l.i (pos 0))
