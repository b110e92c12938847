-- After j turns `out` holds 2 + j bytes, `prev` is what the decoder has by then, and from `prev` and the samples that are left come the bytes that are left.
use mathlib.Core.Path.{◌≡◌}
use mathlib.Core.List.{◌++◌}
use Prim.Native.Nat.{◌+◌, ◌*◌}
use lib.ListN.{take, drop}
use Rattle.fibonacci.specs.Encode.{picks, packed, fib_bytes}
use Rattle.fibonacci.proofs.encode.encode_samples.Given as goal

abbrev pub invariant-loop-j : goal.invariant-loop-j
invariant-loop-j l =
    (l.out ≡ take (2 + l.j) (fib_bytes l.samples) ++ drop (2 + l.j) l.initial.out) ×
    (packed (picks l.prev (drop (2 * l.j + 1) l.samples)) ≡ drop (2 + l.j) (fib_bytes l.samples))
