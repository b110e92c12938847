-- What the code's helpers ask and give; no reader of the meanings needs it.
-- What the walk's code answers at a place of the FORM.
use Rattle.std.specs.Prelude.{ℕ, ◌+◌, ◌%◌, drop, List, Err, None, Ok, Option, Some}
use Rattle.chunk.specs.Chunk.{Head, whole, refused, none, head_of}
use Rattle.chunk.specs.declared.Chunk.{Chunk}
use Rattle.refusal.specs.Outcome.{Outcome}

-- the answer at a place
abbrev pub placed : ℕ → Head → Outcome (Option Chunk)
placed at (whole id n) = Ok (Some (record { id = id; start = at + 8; size = n; next = at + 8 + n + n % 2 }))
placed at (refused r) = Err r
placed at none = Ok None

-- what stands at a place of the FORM
unfoldable pub step_at : List ℕ → ℕ → Outcome (Option Chunk)
step_at f at = placed at (head_of (drop at f))
