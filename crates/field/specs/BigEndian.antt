-- Big-endian numbers.
use Rattle.std.specs.Prelude.{ℕ, zero, suc, ◌+◌, ◌*◌, ◌/◌, ◌%◌, ◌^◌, ◌<◌, List, [], ◌∷◌, slice_index}

-- every number of a list is a byte
abbrev pub Bytes : List ℕ → Type 0
Bytes l = (i : ℕ) → slice_index l i < 256

-- the number in the first n bytes, the highest byte first
unfoldable pub big_endian : ℕ → List ℕ → ℕ
big_endian zero l = 0
big_endian (suc n) l = big_endian n l * 256 + slice_index l n

-- the n lowest bytes of v, the highest first
unfoldable pub big_endian_bytes : ℕ → ℕ → List ℕ
big_endian_bytes zero v = []
big_endian_bytes (suc n) v = v / 256 ^ n % 256 ∷ big_endian_bytes n v
