-- The invariant: the subsequences from here on are all well-formed exactly if all subsequences are.
use Prim.Native.Nat.{◌-◌}
use lib.ListN.{length}
use mathlib.Core.Path.{◌≡◌}
use Rattle.text_utf8.specs.Step.{subsequences_from}
use Rattle.text_utf8.specs.Utf8.{all_well_formed, well_formed}
use Rattle.text_utf8.proofs.step.well_formed.Given as goal

abbrev pub invariant-loop-part : goal.invariant-loop-part
invariant-loop-part l = all_well_formed (subsequences_from l.s l.at) ≡ well_formed l.s

abbrev pub decreases-loop-part : goal.decreases-loop-part
decreases-loop-part l = length l.s - l.at
