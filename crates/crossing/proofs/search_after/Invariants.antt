-- `crossing::search_after` meets its contract: on its way the places below i were looked at, and those before the start are through.
use Prim.Native.Nat.{◌-◌}
use Rattle.crossing.specs.Helpers.{Searched}
use Rattle.crossing.proofs.search_after.Given as goal

abbrev pub invariant-loop-i : goal.invariant-loop-i
invariant-loop-i l = Searched l.samples l.start (l.i - l.start)
