-- After j turns `out` holds 2 j + 1 samples, `prev` is the last of them, and from `prev` and the nibbles that are left come the samples that are left.
use mathlib.Core.Path.{◌≡◌}
use mathlib.Core.List.{◌++◌}
use Prim.Native.Nat.{◌+◌, ◌*◌}
use lib.ListN.{take, drop}
use Rattle.fibonacci.specs.Decode.{nibbles, running, fib_samples}
use Rattle.fibonacci.proofs.decode.decode_first.Given as goal

abbrev pub invariant-loop-j : goal.invariant-loop-j
invariant-loop-j l =
    (l.out ≡ take (2 * l.j + 1) (fib_samples l.body) ++ drop (2 * l.j + 1) l.initial.out) ×
    (running l.prev (nibbles (drop (2 + l.j) l.body)) ≡ drop (2 * l.j) (fib_samples l.body))
