-- After i turns `least` is the least of the first i keys.
use mathlib.Core.Path.{◌≡◌}
use Rattle.fibonacci.specs.Helpers.{key_at, least_of}
use Rattle.fibonacci.proofs.search.least_key.Given as goal

abbrev pub invariant-loop-i : goal.invariant-loop-i
invariant-loop-i l = l.least ≡ least_of (key_at l.prev l.target) l.i
