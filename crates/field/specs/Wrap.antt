-- A number brought back into a signed byte. `negsuc n` is -(n + 1).
use Rattle.std.specs.Prelude.{ℕ, ◌-◌, ◌%◌, ℤ, pos, negsuc}
use Rattle.field.specs.Signed.{sample_of}

-- a number modulo 256, from 0 to 255
unfoldable pub residue : ℤ → ℕ
residue (pos n) = n % 256
residue (negsuc n) = 255 - n % 256

-- a number brought back into -128..127 modulo 256: past 127 it goes on from -128, and past -128 from 127
unfoldable pub to_sample : ℤ → ℤ
to_sample z = sample_of (residue z)
