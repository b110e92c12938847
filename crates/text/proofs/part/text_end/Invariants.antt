-- The invariant: the fold `text_end` from here on is the whole fold.
use Prim.Native.Nat.{◌-◌, ◌≤◌}
use lib.ListN.{length}
use mathlib.Core.Path.{◌≡◌}
use Rattle.text.specs.Place.{text_end}
use Rattle.text_utf8.specs.Step.{subsequences_from}
use Rattle.text.proofs.part.text_end.Given as goal

abbrev pub invariant-loop-part : goal.invariant-loop-part
invariant-loop-part l = (text_end l.end l.at (subsequences_from l.s l.at) ≡ text_end l.from l.from (subsequences_from l.s l.from)) × (l.from ≤ l.end) × (l.end ≤ l.at) × (l.at ≤ length l.s)

abbrev pub decreases-loop-part : goal.decreases-loop-part
decreases-loop-part l = length l.s - l.at
