-- Little-endian numbers.
use Rattle.std.specs.Prelude.{ℕ, zero, suc, ◌+◌, ◌*◌, ◌/◌, ◌%◌, List, [], ◌∷◌}

-- the number in the first n bytes, the lowest byte first
unfoldable pub little_endian : ℕ → List ℕ → ℕ
little_endian zero l = 0
little_endian (suc n) [] = 0
little_endian (suc n) (b ∷ l) = b + 256 * little_endian n l

-- the n lowest bytes of v, the lowest first
unfoldable pub little_endian_bytes : ℕ → ℕ → List ℕ
little_endian_bytes zero v = []
little_endian_bytes (suc n) v = v % 256 ∷ little_endian_bytes n (v / 256)
