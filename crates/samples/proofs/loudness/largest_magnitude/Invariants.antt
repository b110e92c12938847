-- `samples::loudness::largest_magnitude` meets its contract: on its way `best` is the largest magnitude of the samples that it has passed.
use mathlib.Core.Path.{◌≡◌}
use lib.ListN.{take}
use Rattle.samples.specs.Peak.{loudest}
use Rattle.samples.proofs.loudness.largest_magnitude.Given as goal

abbrev pub invariant-loop-s : goal.invariant-loop-s
invariant-loop-s l = l.best ≡ loudest (take l.s-index l.samples)
