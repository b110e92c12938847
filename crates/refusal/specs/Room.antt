-- What a writer asks that is called once the length is known; no reader of the meanings needs it.
use Rattle.std.specs.Prelude.{ℕ, ◌≤◌, List, ◌≡◌, length, Ok, Err}
use Rattle.refusal.specs.Outcome.{Outcome}

-- there is an output of n elements, which fits into so many places
abbrev pub Room : {A : Type 0} → Outcome (List A) → ℕ → ℕ → Type 0
Room (Ok xs) n places = (n ≡ length xs) × (n ≤ places)
Room (Err refusal) n places = ⊥
