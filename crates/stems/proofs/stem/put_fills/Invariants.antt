-- What is left is never more than it was.
use Rattle.std.proofs.Common.{◌≤◌}
use Rattle.stems.proofs.stem.put_fills.Given as goal

abbrev pub invariant-loop-call : goal.invariant-loop-call
invariant-loop-call l = l.left ≤ 1000
