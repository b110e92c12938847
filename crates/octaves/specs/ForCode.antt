-- What the code's helpers ask and give; no reader of the meanings needs it.
use Rattle.std.specs.Prelude.{ℕ, ◌+◌, ◌≤◌, None, Option, Some}
use Rattle.octaves.specs.declared.part.Part.{Part}

-- a part lies within so many places
abbrev pub LiesWithin : Option Part → ℕ → Type 0
LiesWithin (Some it) places = it.start + it.length ≤ places
LiesWithin None places = Unit
