-- `body_decode::interleave_fibonacci` meets its contract: a and b are the next samples of the two sides, where there are any.
use mathlib.Core.Path.{◌≡◌}
use mathlib.Core.List.{◌++◌}
use Prim.Native.Nat.{◌+◌, ◌<◌}
use lib.IntN.{pos}
use lib.ListN.{length, take, drop, get_or}
use Rattle.fibonacci.specs.Decode.{fib_samples}
use Rattle.laws.specs.Turns.{by_turns}
use Rattle.body_decode.specs.Body.{frame_bytes}
use Rattle.body_decode.proofs.interleave_fibonacci.Given as goal

abbrev pub invariant-loop-i : goal.invariant-loop-i
invariant-loop-i l =
    (l.out ≡ take (l.i + l.i) (by_turns (frame_bytes l.n (fib_samples l.left)) (frame_bytes l.n (fib_samples l.right))) ++ drop (l.i + l.i) l.initial.out)
    × (l.i < length (fib_samples l.left) → l.a ≡ get_or (fib_samples l.left) l.i (pos 0))
    × (l.i < length (fib_samples l.right) → l.b ≡ get_or (fib_samples l.right) l.i (pos 0))
