-- Products and quotients that cut toward zero, and a level on its way to another.
use Rattle.std.specs.Prelude.{ℕ, ℤ, pos, ◌+ℤ◌, ◌-ℤ◌, ◌*ℤ◌}
use Rattle.std.specs.Int.Signed.{quot_z}

-- x × n / d, cut toward zero
unfoldable pub scaled_by : ℤ → ℕ → ℕ → ℤ
scaled_by x n d = quot_z (x *ℤ pos n) (pos d)

-- from a level to `dest` in d milliseconds, after `into` of them
unfoldable pub on_the_way : ℤ → ℤ → ℕ → ℕ → ℤ
on_the_way level dest into d = level +ℤ scaled_by (dest -ℤ level) into d
