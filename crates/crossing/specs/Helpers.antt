-- What the search knows on its way; no reader of the meanings needs it.
use Rattle.std.specs.Prelude.{ℕ, ◌+◌, ◌-◌, ◌≤◌, ◌<◌, List, ◌≡◌, ℤ, length}
use Rattle.crossing.specs.Crossing.{is_below}

-- the distances below d were looked at without a crossing: the d samples before the start and the d from it on have the sign of the start's
pub record Searched (samples : List ℤ) (start d : ℕ) : Type 0 where
  pub inside : start < length samples
  pub signs : (j : ℕ) → j < length samples → start ≤ j + d → j ≤ start + (d - 1) → is_below samples j ≡ is_below samples start
