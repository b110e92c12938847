-- Each nibble is the one picked from the sample that the decoder has by then, and is below 16, so two fit a byte.
use mathlib.Core.Path.{◌≡◌}
use Prim.Native.Nat.{◌<◌}
use native.Mathlib.Omega.{arith}
use lib.IntN.{ℤ}
use Rattle.fibonacci.specs.Helpers.{picked}
use Rattle.fibonacci.specs.declared.pick.Picked.{Picked}
use Rattle.fibonacci.proofs.PickLaws.{pick_below}
use Rattle.fibonacci.proofs.encode.pack_pair.Goals as goal

below : (p : Picked) (prev target : ℤ) → p ≡ picked prev target → p.nibble < 16
below p prev target e = rw e (pick_below prev target)

pub overflow_mul-byte : goal.overflow_mul-byte
overflow_mul-byte c = omega (arith, below _ _ _ c.fib_pick_nibble-high.ensures)

pub overflow_add-byte : goal.overflow_add-byte
overflow_add-byte c = omega (arith, below _ _ _ c.fib_pick_nibble-high.ensures, below _ _ _ c.fib_pick_nibble-low.ensures)
