-- The laws of little-endian numbers: what was written reads back, at any width, whatever follows it; and the library's bytes.
-- Elsewhere only closed examples unfold the definitions.
-- Assumes nothing.
use Rattle.std.proofs.Common.{◌≡◌, ℕ, zero, suc, ◌/◌, ◌%◌, ◌^◌, ◌<◌, List, ◌++◌, length, refl, ap, pow-suc, div-one, arith}
use native.Mathlib.Nat.{div-div-eq-div-mul}
use Rattle.std.specs.Int.{byte_at, bytes_low_first}
use Rattle.field.specs.LittleEndian.{little_endian, little_endian_bytes}

pub little_length : (n v : ℕ) → length (little_endian_bytes n v) ≡ n
unfolding little_endian_bytes
little_length zero v = refl
little_length (suc n) v = ap suc (little_length n (v / 256))

pub little_back : (n v : ℕ) (rest : List ℕ) → v < 256 ^ n → little_endian n (little_endian_bytes n v ++ rest) ≡ v
unfolding little_endian little_endian_bytes
little_back zero v rest h = omega arith
little_back (suc n) v rest h =
    let high : v / 256 < 256 ^ n = omega (arith, pow-suc 256 n) in
    omega (arith, little_back n (v / 256) rest high)

-- the library's bytes, from byte i upward
bytes_above : (i k v : ℕ) → bytes_low_first i k v ≡ little_endian_bytes k (v / 256 ^ i)
unfolding little_endian_bytes
bytes_above i zero v = refl
bytes_above i (suc k) v =
    let more : v / 256 ^ i / 256 ≡ v / 256 ^ suc i = rw pow-suc (div-div-eq-div-mul v (256 ^ i) 256) in
    let first : byte_at i v ≡ v / 256 ^ i % 256 = byte_is i v in
    rw (first, bytes_above (suc i) k v, more)
  where
    byte_is : (i v : ℕ) → byte_at i v ≡ v / 256 ^ i % 256
    byte_is zero v = rw div-one
    byte_is (suc i) v = refl

-- what `to_le_bytes` gives, at any width
pub library_bytes : (k v : ℕ) → bytes_low_first 0 k v ≡ little_endian_bytes k v
library_bytes k v = rw div-one at (bytes_above 0 k v)
