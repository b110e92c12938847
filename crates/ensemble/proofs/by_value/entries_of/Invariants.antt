-- `ensemble::by_value::entries_of` meets its contract. The invariant: the places before i have their entries.
use Prim.Native.Nat.{ℕ, ◌<◌}
use mathlib.Core.Path.{◌≡◌}
use lib.ListN.{length, get_or}
use Rattle.ensemble_score.specs.Score.{blank, entry_in}
use Rattle.ensemble.proofs.by_value.entries_of.Given as goal

abbrev pub invariant-loop-i : goal.invariant-loop-i
invariant-loop-i l = (length l.entries ≡ 16) × ((j : ℕ) → j < l.i → get_or l.entries j blank ≡ entry_in l.numbers j)
