-- The invariant: what is counted and the length of the rest with its ill-formed parts replaced, capped, make that of the whole, capped.
use Prim.Native.Nat.{◌+◌, ◌-◌, ◌^◌, ◌≤◌, min}
use lib.ListN.{length, drop}
use mathlib.Core.Path.{◌≡◌}
use Rattle.text_utf8.specs.Utf8.{lossy}
use Rattle.text.proofs.length.lossy_len.Given as goal

abbrev pub invariant-loop-part : goal.invariant-loop-part
invariant-loop-part l = (min (l.n + length (lossy (drop l.at l.s))) (2 ^ 62) ≡ min (length (lossy l.s)) (2 ^ 62)) × (l.n ≤ 2 ^ 62)

abbrev pub decreases-loop-part : goal.decreases-loop-part
decreases-loop-part l = length l.s - l.at
