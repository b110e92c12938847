-- What the sides of a BODY make of the answers and of the lent buffers.
use Rattle.std.specs.Prelude.{ℕ, ◌≤◌, List, ℤ, length, Err, Ok}
use Rattle.laws.specs.Buffer.{written}
use Rattle.body_read.specs.Sides.{Sides}
use Rattle.body_read.specs.declared.lengths.SideLengths.{SideLengths}
use Rattle.refusal.specs.Outcome.{Outcome}

-- the lengths of the sides
abbrev pub side_lengths_of : Outcome Sides → Outcome SideLengths
side_lengths_of (Ok s) = Ok (record { left = length s.left; right = length s.right })
side_lengths_of (Err refusal) = Err refusal

-- both sides fit their buffers
abbrev pub SidesFit : Outcome Sides → ℕ → ℕ → Type 0
SidesFit (Ok s) left right = (length s.left ≤ left) × (length s.right ≤ right)
SidesFit (Err refusal) left right = Unit

-- the left buffer: the left side's samples, and past them what it held
abbrev pub left_after : Outcome Sides → List ℤ → List ℤ
left_after (Ok s) buffer = written s.left buffer
left_after (Err refusal) buffer = buffer

-- the right buffer
abbrev pub right_after : Outcome Sides → List ℤ → List ℤ
right_after (Ok s) buffer = written s.right buffer
right_after (Err refusal) buffer = buffer
