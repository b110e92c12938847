-- Answers as they cross to C: a number, 0 where accepted, and values that a refused call leaves as they were.
use Rattle.std.specs.Prelude.{ℕ, List, [], ◌∷◌, Err, Ok}
use Rattle.voice_read.specs.declared.chunks.Lengths.{Lengths}
use Rattle.refusal.specs.Outcome.{Outcome}
use Rattle.refusal.specs.Refusal.{number_of}

-- the refusal's number, or 0
abbrev pub refusal_number : {A : Type 0} → Outcome A → ℕ
refusal_number (Ok a) = 0
refusal_number (Err refusal) = number_of refusal

-- what then stands in the place that was lent for the value
abbrev pub handed : {A : Type 0} → Outcome A → A → A
handed (Ok a) before = a
handed (Err refusal) before = before

-- and in the places for the three lengths of a reading: sheet, left, right
abbrev pub handed_lengths : Outcome Lengths → List ℕ → List ℕ
handed_lengths (Ok l) before = l.sheet ∷ l.left ∷ l.right ∷ []
handed_lengths (Err refusal) before = before
