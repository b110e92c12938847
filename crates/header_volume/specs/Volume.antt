-- The volume as a 32-bit float: rounded to 24 binary digits, nearest, ties to even, then divided by 65,536.
-- `size v` is how many binary digits v has, and `closest a b` is a / b to the nearest whole number, a tie to the even one.
use Rattle.std.specs.Prelude.{ℕ, ◌-◌, ◌*◌, ◌^◌, false, Float}
use Rattle.std.specs.Float.{binary32}
use Rattle.std.specs.Float.Ieee.{round, size}
use Rattle.std.specs.Float.Ieee.Nearest.{closest}

-- the place value of the lowest of the 24 digits
unfoldable pub lowest_digit : ℕ → ℕ
lowest_digit v = 2 ^ (size v - 24)

-- v in multiples of that, to the nearest
unfoldable pub kept_digits : ℕ → ℕ
unfolding lowest_digit
kept_digits v = closest v (lowest_digit v)

-- v rounded to 24 digits
abbrev pub rounded24 : ℕ → ℕ
rounded24 v = kept_digits v * lowest_digit v

-- that over 65,536, which a float holds exactly
abbrev pub volume_float : ℕ → Float
volume_float v = round binary32 false (rounded24 v) 65536
