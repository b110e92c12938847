-- Two's complement: the same bits as an unsigned and as a signed number. `negsuc n` is -(n + 1).
use Rattle.std.specs.Prelude.{ℕ, suc, ◌+◌, ◌-◌, ◌^◌, cond, List, ℤ, pos, negsuc, FitsSigned, nat_lt, slice_index_or}
use Rattle.std.specs.Int.{w8}

-- of 2 h values: below h the number itself, from h on the number less 2 h
unfoldable pub twos_complement : ℕ → ℕ → ℤ
twos_complement h b = cond (nat_lt b h) (pos b) (negsuc (h + h - suc b))

-- the other way: n for n, and 2 h - (n + 1) for -(n + 1)
unfoldable pub twos_complement_bits : ℕ → ℤ → ℕ
twos_complement_bits h (pos n) = n
twos_complement_bits h (negsuc n) = h + h - suc n

-- a byte as a sample, -128..127
abbrev pub sample_of : ℕ → ℤ
sample_of b = twos_complement 128 b

-- every number of a list is a sample
abbrev pub Samples : List ℤ → Type 0
Samples l = (i : ℕ) → FitsSigned w8 (slice_index_or l i (pos 0))

-- a sample as a byte
abbrev pub byte_of : ℤ → ℕ
byte_of s = twos_complement_bits 128 s

-- 32 bits as a signed number
abbrev pub signed32 : ℕ → ℤ
signed32 b = twos_complement (2 ^ 31) b

-- a signed number as 32 bits
abbrev pub bits32 : ℤ → ℕ
bits32 z = twos_complement_bits (2 ^ 31) z
