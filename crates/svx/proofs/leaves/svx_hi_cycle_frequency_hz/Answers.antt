-- `svx::leaves::svx_hi_cycle_frequency_hz` meets its contract: rate and samples per cycle stand in the header that is asked.
use mathlib.Core.Path.{◌≡◌, sym, ap, ◌∙◌}
use lib.Ieee.{of_bits, of_int}
use Rattle.header.specs.Frequency.{cycle_frequency}
use Rattle.svx.specs.Shapes.{frequency_of}
use Rattle.svx.proofs.leaves.svx_hi_cycle_frequency_hz.Goals as goal

asked : (c : goal.In-None) → cycle_frequency c.args.rate c.args.samples_per_cycle ≡ c.hi_cycle_frequency_hz.result
asked c = rw (sym c.header_with-h.ensures.0, sym c.header_with-h.ensures.1) (sym c.hi_cycle_frequency_hz.ensures)

pub returns-in-None : goal.returns-in-None
unfolding of_bits of_int
returns-in-None c = sym (ap frequency_of (asked c ∙ c.in-None.is))
