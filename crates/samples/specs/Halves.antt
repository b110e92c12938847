-- Two channels: the first half of BODY is left, the second right, by BODY's own length.
use Rattle.std.specs.Prelude.{ℕ, ◌+◌, ◌/◌, ◌%◌, Bool, false, List, eqb, length, take, drop}
use Rattle.header.specs.declared.compression.Compression.{Compression}
use Rattle.header.specs.declared.compression.Compression.TheVariants.{None, Fibonacci}

-- the left channel's bytes
abbrev pub left_half : List ℕ → List ℕ
left_half body = take (length body / 2) body

-- the right channel's bytes; an odd last byte is dropped
abbrev pub right_half : List ℕ → List ℕ
right_half body = take (length body / 2) (drop (length body / 2) body)

-- where a half lies: a pointer is a block and an offset in bytes
abbrev pub right_at : ℕ × ℕ → List ℕ → ℕ × ℕ
right_at p body = (p.0, p.1 + length body / 2)

-- halves of an odd length, which Fibonacci does not allow
abbrev pub uneven : Compression → List ℕ → Bool
uneven None body = false
uneven Fibonacci body = eqb (length body % 2) 1
