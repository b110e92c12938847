-- The least key's place is that of the nibble that is picked, by `search_picks`.
use mathlib.Core.Path.{◌∙◌}
use mir.Facts.{to_z-of_z}
use Rattle.fibonacci.specs.Step.{deltas}
use Rattle.fibonacci.specs.Helpers.{by_size}
use Rattle.fibonacci.proofs.TableLaws.{order_right}
use Rattle.fibonacci.proofs.SearchLaws.{search_picks}
use Rattle.fibonacci.proofs.search.nearest_of_all.Goals as goal

-- antt computes the sixteen deltas by size and finds those of the code
pub least_key-least-requires : goal.least_key-least-requires
unfolding by_size deltas
least_key-least-requires c = order_right

pub returns : goal.returns
returns c =
    c.nibble_by_size.ensures ∙
    rw (c.least_key-least.ensures, to_z-of_z c.ranges.prev, to_z-of_z c.ranges.target) (search_picks c.args.prev c.args.target c.ranges.target)
