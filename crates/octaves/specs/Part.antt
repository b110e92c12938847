-- A part of a slice, by its start and its length.
use Rattle.std.specs.Prelude.{ℕ, ◌+◌, List, [], ℤ, take, drop, None, Option, Some}
use Rattle.octaves.specs.declared.part.Part.{Part}

-- its samples; none where there is no part
abbrev pub part_of : Option Part → List ℤ → List ℤ
part_of (Some it) samples = take it.length (drop it.start samples)
part_of None samples = []

-- where it lies: a pointer is a block and an offset in bytes, and a sample is one byte
abbrev pub part_at : Option Part → ℕ × ℕ → ℕ × ℕ
part_at (Some it) p = (p.0, p.1 + it.start)
part_at None p = p
