-- `ensemble_score::nth_entry` meets its contract: five numbers are read where the entry has them.
use mathlib.Core.Path.{refl}
use Rattle.ensemble_score.specs.Score.{entry_in}
use Rattle.ensemble_score.proofs.nth_entry.Goals as goal

pub returns : goal.returns
unfolding entry_in
returns c = refl
