-- Code points, and which of them have the property White_Space.
use Rattle.std.specs.Prelude.{ℕ, ◌+◌, ◌*◌, ◌%◌, Bool, false, ◌||◌, List, [], ◌∷◌}
use Rattle.text_utf8.specs.Table.{Range, to, within}

-- the Unicode Standard, table 3-6, UTF-8 Bit Distribution: the code point that the low bits of one to four bytes make; else 0
unfoldable pub code_point : List ℕ → ℕ
code_point [] = 0
code_point (a ∷ []) = a
code_point (a ∷ b ∷ []) = a % 32 * 64 + b % 64
code_point (a ∷ b ∷ c ∷ []) = (a % 16 * 64 + b % 64) * 64 + c % 64
code_point (a ∷ b ∷ c ∷ d ∷ []) = ((a % 8 * 64 + b % 64) * 64 + c % 64) * 64 + d % 64
code_point (a ∷ b ∷ c ∷ d ∷ e ∷ l) = 0

-- the Unicode Character Database, PropList.txt: the 25 code points with the property White_Space
abbrev pub white_space : List Range
white_space =
    to 0x0009 0x000D
    ∷ to 0x0020 0x0020
    ∷ to 0x0085 0x0085
    ∷ to 0x00A0 0x00A0
    ∷ to 0x1680 0x1680
    ∷ to 0x2000 0x200A
    ∷ to 0x2028 0x2029
    ∷ to 0x202F 0x202F
    ∷ to 0x205F 0x205F
    ∷ to 0x3000 0x3000
    ∷ []

-- a number lies in one of these ranges
abbrev pub any_of : List Range → ℕ → Bool
any_of [] n = false
any_of (r ∷ rs) n = within r n || any_of rs n

-- the code point has the property White_Space
unfoldable pub is_white_space : ℕ → Bool
is_white_space n = any_of white_space n
