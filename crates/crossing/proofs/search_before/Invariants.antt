-- `crossing::search_before` meets its contract: on its way the distances below d were looked at, and those after the start are through.
use Rattle.crossing.specs.Helpers.{Searched}
use Rattle.crossing.proofs.search_before.Given as goal

abbrev pub invariant-loop-d : goal.invariant-loop-d
invariant-loop-d l = Searched l.samples l.start l.d
