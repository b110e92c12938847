-- The invariant: what `trim_start` leaves of the subsequences from here on is what it leaves of all.
use Prim.Native.Nat.{◌-◌, ◌≤◌}
use lib.ListN.{length}
use mathlib.Core.Path.{◌≡◌}
use Rattle.text.specs.Text.{trim_start}
use Rattle.text_utf8.specs.Step.{subsequences_from}
use Rattle.text_utf8.specs.Utf8.{subsequences}
use Rattle.text.proofs.part.text_start.Given as goal

abbrev pub invariant-loop-part : goal.invariant-loop-part
invariant-loop-part l = (trim_start (subsequences_from l.s l.at) ≡ trim_start (subsequences l.s)) × (l.at ≤ length l.s)

abbrev pub decreases-loop-part : goal.decreases-loop-part
decreases-loop-part l = length l.s - l.at
