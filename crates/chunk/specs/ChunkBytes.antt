-- A chunk as bytes.
use Rattle.std.specs.Prelude.{ℕ, ◌%◌, eqb, length, cond, List, [], ◌∷◌, ◌++◌}
use Rattle.field.specs.BigEndian.{big_endian_bytes}

-- a zero byte after an odd payload
unfoldable pub pad : ℕ → List ℕ
pad n = cond (eqb (n % 2) 0) [] (0 ∷ [])

-- name and size, four bytes each
abbrev pub head_bytes : ℕ → ℕ → List ℕ
head_bytes id n = big_endian_bytes 4 id ++ big_endian_bytes 4 n

-- name, size, payload, pad
unfoldable pub chunk_bytes : ℕ → List ℕ → List ℕ
chunk_bytes id b = head_bytes id (length b) ++ b ++ pad (length b)
