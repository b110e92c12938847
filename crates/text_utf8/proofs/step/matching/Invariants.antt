-- The invariant: the place so far, and as many of the bytes from there as still match, make the whole match.
use Prim.Native.Nat.{◌+◌}
use lib.ListN.{drop}
use mathlib.Core.Path.{◌≡◌}
use Rattle.text_utf8.specs.Lead.{ranges_of}
use Rattle.text_utf8.specs.Utf8.{matching}
use Rattle.text_utf8.proofs.step.matching.Given as goal

abbrev pub invariant-loop-i : goal.invariant-loop-i
invariant-loop-i l = l.i + matching (ranges_of l.left) (drop l.i l.s) ≡ matching (ranges_of l.fn.follow) l.s
