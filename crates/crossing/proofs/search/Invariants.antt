-- `crossing::search` meets its contract: on its way the distances below d were looked at, on both sides.
use Rattle.crossing.specs.Helpers.{Searched}
use Rattle.crossing.proofs.search.Given as goal

abbrev pub invariant-loop-d : goal.invariant-loop-d
invariant-loop-d l = Searched l.samples l.start l.d
